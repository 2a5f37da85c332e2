use Rattle.std.proofs.Common.{refl}
use Rattle.wh_flow.proofs.ResidualNets.{residual_without_flow}
use Rattle.wh_flow.proofs.residual.ResidualNet.without_flow.Goals as goal

pub invariant_of-result : goal.invariant_of-result
invariant_of-result c = rw c.zero.ensures (residual_without_flow c.cells.result.now c.neighbours.result c.cells.ensures.low (rw c.cells.ensures.cells c.neighbours.ensures))

pub returns : goal.returns
returns c = rw (c.cells.ensures.cells, c.zero.ensures) refl
