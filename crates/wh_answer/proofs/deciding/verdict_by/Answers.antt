use Rattle.std.proofs.Common.{subst}
use Rattle.wh_answer.specs.Findings.{Finds}
use Rattle.wh_answer.proofs.deciding.verdict_by.Goals as goal

pub returns-in-Moves-clause-verdict : goal.returns-in-Moves-clause-verdict
returns-in-Moves-clause-verdict c limit s t found traced = subst (Finds limit c.args.first c.args.second) c.in-Moves.is found s t traced

pub returns-in-Bound-clause-verdict : goal.returns-in-Bound-clause-verdict
returns-in-Bound-clause-verdict c limit s t found traced = subst (Finds limit c.args.first c.args.second) c.in-Bound.is found s t traced

pub returns-in-Lengths-clause-verdict : goal.returns-in-Lengths-clause-verdict
returns-in-Lengths-clause-verdict c limit s t found traced = c.other_lengths.ensures.verdict limit s t traced

pub returns-in-Level-clause-verdict : goal.returns-in-Level-clause-verdict
returns-in-Level-clause-verdict c limit s t found traced = (let level = subst (Finds limit c.args.first c.args.second) c.in-Level.is found in c.off_level.ensures.verdict limit s t level.3 traced)
