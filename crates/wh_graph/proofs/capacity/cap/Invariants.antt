use Rattle.std.proofs.Common.{◌≡◌, ◌*◌, ◌≤◌}
use Rattle.wh_graph.proofs.CellSums.{cap_below}
use Rattle.wh_graph.proofs.capacity.cap.Given as goal

abbrev pub invariant-loop-index : goal.invariant-loop-index
invariant-loop-index l = record { total : l.total ≡ cap_below l.net.cells l.set l.index; few : l.total ≤ l.index * (52 * 4096) }
