use Rattle.wh_flow.proofs.NetEdges.{empty_net, empty_count}
use Rattle.wh_flow.proofs.Neighbours.{no_neighbours}
use Rattle.wh_flow.proofs.net.Net.empty.Goals as goal

pub invariant_of-result : goal.invariant_of-result
invariant_of-result c = rw c.zero.ensures (empty_net c.args.rank c.get.ensures.greatest, no_neighbours)

pub returns-clause-none : goal.returns-clause-none
returns-clause-none c = rw c.zero.ensures empty_count
