use Rattle.std.proofs.Common.{◌≡◌, length}
use Rattle.wh_words.specs.Flows.{degree}
use Rattle.wh_flow.specs.Tables.{cell}
use Rattle.wh_graph.specs.CapacityTables.{HasTable}
use Rattle.wh_relators.proofs.capacities.measure_letters.Given as goal

abbrev pub invariant-loop-index : goal.invariant-loop-index
invariant-loop-index l = record {
  degrees : HasTable (degree (cell l.net.cells)) l.index l.degrees;
  same_length : length l.degrees ≡ length l.fn.degrees;
}
