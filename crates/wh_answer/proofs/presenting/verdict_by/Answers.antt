use Rattle.std.proofs.Common.{subst}
use Rattle.wh_answer.specs.StabiliserFindings.{Finds}
use Rattle.wh_answer.proofs.StabiliserParts.{done_by}
use Rattle.wh_answer.proofs.presenting.verdict_by.Goals as goal

pub returns-in-Ok : goal.returns-in-Ok
returns-in-Ok c limit t found leads =
    done_by limit t c.args.trace c.in-Ok.side c.in-Parts.parts c.in-Ok.ensures.own.0 (c.in-Ok.ensures.side t leads) (subst (Finds limit t c.args.trace) c.in-Parts.is found)
