use Rattle.std.proofs.Common.{◌≡◌, ◌*◌, ◌≤◌}
use Rattle.wh_graph.proofs.CellSums.{out_below}
use Rattle.wh_graph.proofs.capacity.edges_out.Given as goal

abbrev pub invariant-loop-index : goal.invariant-loop-index
invariant-loop-index l = record { total : l.total ≡ out_below l.net.cells l.set l.x l.index; few : l.total ≤ l.index * 4096 }
