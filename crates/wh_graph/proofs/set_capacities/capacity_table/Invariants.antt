use Rattle.std.proofs.Common.{◌≡◌, ◌-◌, ◌*◌, ◌^◌, length}
use Rattle.wh_graph.specs.CapacityTables.{HasTable, set_capacity}
use Rattle.wh_graph.proofs.set_capacities.capacity_table.Given as goal

abbrev pub invariant-loop-index : goal.invariant-loop-index
invariant-loop-index l = record {
  table : HasTable (set_capacity l.net.cells) (2 ^ l.index) l.capacities.items;
  size : length l.capacities.items ≡ 2 ^ (2 * l.net.rank);
  room : length l.edges.items ≡ 2 ^ (2 * l.net.rank - 1);
}
