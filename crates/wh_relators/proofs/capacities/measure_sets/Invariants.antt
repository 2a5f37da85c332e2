use Rattle.std.proofs.Common.{◌≡◌, length}
use Rattle.wh_graph.specs.CapacityTables.{HasTable, set_capacity}
use Rattle.wh_relators.proofs.capacities.measure_sets.Given as goal

abbrev pub invariant-loop-set : goal.invariant-loop-set
invariant-loop-set l = record {
  sets : HasTable (set_capacity l.net.cells) l.set l.sets;
  same_length : length l.sets ≡ length l.fn.sets;
}
