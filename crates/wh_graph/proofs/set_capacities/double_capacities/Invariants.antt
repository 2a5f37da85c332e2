use Rattle.std.proofs.Common.{◌≡◌, ◌+◌, ◌^◌, length}
use Rattle.wh_graph.specs.CapacityTables.{HasTable, set_capacity}
use Rattle.wh_graph.proofs.set_capacities.double_capacities.Given as goal

abbrev pub invariant-loop-set : goal.invariant-loop-set
invariant-loop-set l = record {
  table : HasTable (set_capacity l.net.cells) (2 ^ l.fn.x + l.set) l.capacities;
  same_length : length l.capacities ≡ length l.fn.capacities;
}
