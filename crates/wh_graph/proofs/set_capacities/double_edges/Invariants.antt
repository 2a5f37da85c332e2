use Rattle.std.proofs.Common.{◌≡◌, ◌+◌, ◌^◌, length}
use Rattle.wh_graph.specs.CapacityTables.{HasTable, edges_into}
use Rattle.wh_graph.proofs.set_capacities.double_edges.Given as goal

abbrev pub invariant-loop-set : goal.invariant-loop-set
invariant-loop-set l = record {
  table : HasTable (edges_into l.net.cells l.fn.x) (2 ^ l.fn.y + l.set) l.edges;
  same_length : length l.edges ≡ length l.fn.edges;
}
