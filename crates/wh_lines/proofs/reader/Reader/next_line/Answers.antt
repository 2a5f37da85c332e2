use Rattle.std.proofs.Common.{subst}
use Rattle.std.proofs.lemmas.Result.{err_from_is_err_and}
use Rattle.wh_lines.specs.Lines.{lines}
use Rattle.wh_lines.specs.Readings.{Refuses}
use Rattle.wh_lines.specs.KeptLines.{rest}
use Rattle.wh_lines.specs.LineReadings.{Reading, next}
use Rattle.wh_lines.proofs.NextLines.{next_fails}
use Rattle.wh_lines.proofs.reader.Reader.next_line.Goals as goal

pub returns-in_err-kept : goal.returns-in_err-kept
returns-in_err-kept c =
    let p = err_from_is_err_and c.from_residual.result c.from_residual.ensures.1 in
    let here : Reading = record { taken = c.self.inside.taken.items; rest = rest c.self.inside.line (lines c.self.inside.rest.now) } in
    rw (p.1, p.2) (subst (λ (r : Reading). Refuses (next r) c.in_err-kept.field-0.0) c.self.view_is (next_fails here c.in_err-kept.field-0.0 c.in_err-kept.ensures.first))
