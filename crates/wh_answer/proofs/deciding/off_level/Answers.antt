use Rattle.wh_answer.proofs.Verdicts.{no_level}
use Rattle.wh_answer.proofs.deciding.off_level.Goals as goal

pub returns-clause-verdict : goal.returns-clause-verdict
returns-clause-verdict c limit s t few traced =
    no_level limit s t c.args.first c.args.second c.in_ok-first.first c.in_ok-first.second c.args.level traced c.requires.apart c.requires.low c.requires.level few c.requires.off
    (c.in_ok-first.ensures.first s t traced) (c.in_ok-first.ensures.second s t traced) c.in_ok-first.ensures.first_own c.in_ok-first.ensures.second_own
