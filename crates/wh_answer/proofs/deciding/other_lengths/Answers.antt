use Rattle.wh_answer.proofs.Verdicts.{no_length}
use Rattle.wh_answer.proofs.deciding.other_lengths.Goals as goal

pub returns-clause-verdict : goal.returns-clause-verdict
returns-clause-verdict c limit s t traced =
    no_length limit s t c.args.first c.args.second c.in_ok-first.first c.in_ok-first.second traced (c.in_ok-first.ensures.first s t traced) (c.in_ok-first.ensures.second s t traced)
    c.in_ok-first.ensures.first_own.1 c.in_ok-first.ensures.second_own.1 c.requires.lengths
