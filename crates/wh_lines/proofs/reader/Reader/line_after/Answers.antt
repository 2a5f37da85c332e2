use Rattle.std.proofs.Common.{rules}
use Rattle.std.proofs.lemmas.Result.{err_from_is_err_and}
use Rattle.wh_lines.proofs.NextLines.{line_fails, keyword_reads}
use Rattle.wh_lines.proofs.reader.Reader.line_after.Goals as goal

pub returns-in_err-kept : goal.returns-in_err-kept
returns-in_err-kept c =
    let p = err_from_is_err_and c.from_residual.result c.from_residual.ensures.1 in
    rw (p.1, p.2) (line_fails c.args.keyword.now c.args.self.now c.in_err-kept.field-0.0 c.in_err-kept.ensures)

pub returns-in-Line : goal.returns-in-Line
returns-in-Line c = keyword_reads c.args.keyword.now c.args.self.now c.in-Line.kept c.next_line.new.self c.with_keyword.result (search rules) c.with_keyword.ensures
