use Rattle.std.proofs.Common.{◌≡◌, ◌^◌, length}
use Rattle.wh_graph.specs.CapacityTables.{HasTable, edges_into}
use Rattle.wh_graph.proofs.set_capacities.count_edges.Given as goal

abbrev pub invariant-loop-index : goal.invariant-loop-index
invariant-loop-index l = record {
  table : HasTable (edges_into l.net.cells l.x) (2 ^ l.index) l.edges;
  same_length : length l.edges ≡ length l.fn.edges;
}
