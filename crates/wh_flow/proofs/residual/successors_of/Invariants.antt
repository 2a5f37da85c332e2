use Rattle.wh_flow.specs.Searches.{residual}
use Rattle.wh_flow.proofs.Masks.{IsSetBelow}
use Rattle.wh_flow.proofs.residual.successors_of.Given as goal

abbrev pub invariant-loop-y : goal.invariant-loop-y
invariant-loop-y l = IsSetBelow l.successors l.y (residual l.cap l.flow 0 l.v)
