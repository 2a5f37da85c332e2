use Rattle.std.proofs.Common.{◌≡◌, ◌*◌, ◌≤◌}
use Rattle.wh_graph.proofs.CellSums.{deg_below}
use Rattle.wh_graph.proofs.capacity.deg.Given as goal

abbrev pub invariant-loop-index : goal.invariant-loop-index
invariant-loop-index l = record { total : l.total ≡ deg_below l.net.cells l.x l.index; few : l.total ≤ l.index * 4096 }
