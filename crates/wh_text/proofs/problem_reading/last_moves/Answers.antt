use Rattle.std.proofs.Common.{◌≡◌, rules, Ok}
use Rattle.std.proofs.lemmas.Result.{err_from_is_err_and}
use Rattle.wh_text.specs.Problems.{given_moves}
use Rattle.wh_text.proofs.StatedLines.{last_refused}
use Rattle.wh_text.proofs.problem_reading.last_moves.Goals as goal

pub returns-in_err-at_end : goal.returns-in_err-at_end
returns-in_err-at_end c =
    let p = err_from_is_err_and c.from_residual-in_err-at_end.result c.from_residual-in_err-at_end.ensures.1 in
    let given : given_moves c.args.rank c.args.kept.now ≡ Ok c.in_ok-moves.moves = search rules in
    rw (p.1, p.2) (last_refused c.args.rank c.args.kept.now c.args.reader.now c.in_ok-moves.moves c.in_err-at_end.field-0.0 given c.in_err-at_end.ensures)
