-- What the flows of generators show.
use Rattle.std.proofs.Common.{◌+◌, ◌*◌, ◌≤◌, [], get_or, arith}
use Rattle.wh_words.specs.Letters.{inverse_letter}
use Rattle.wh_words.specs.LetterSets.{in_set}
use Rattle.wh_words.specs.Tuples.{TupleData, IsTuple}
use Rattle.wh_words.specs.CapacityTraces.{IsFlatByCapacities}
use Rattle.wh_words.specs.Flows.{outflow, inflow, capacity_of_set}
use Rattle.wh_words.specs.TupleFlows.{edge_table}
use Rattle.wh_flow.specs.Tables.{cell}
use Rattle.wh_flow.proofs.Cuts.{at-most}
use Rattle.wh_flow.proofs.FirstFlows.{first-one}
use Rattle.wh_graph.proofs.EdgeTables.{edges_capacity}
use Rattle.wh_graph.proofs.NetworkCuts.{cut_separates}
use Rattle.wh_graph.proofs.Agreement.{flat_by_capacities}
use Rattle.wh_reduce.specs.Laws.{HasFullFlows, FullFlowsShowFlatness, FlowsAreUnique}

-- All of a flow crosses out of the set of a cut.
flat_flows : (t : TupleData) → IsTuple t → t.rank ≤ 26 → HasFullFlows t → IsFlatByCapacities t
flat_flows t is rank flows generator set c =
    let flow = flows generator (omega (arith, c.of_rank)) in
    let most : outflow flow.0 (2 * generator) ≤ inflow flow.0 (2 * generator) + capacity_of_set (edge_table t) (in_set set) =
    at-most flow.0 (in_set set) (edge_table t) (2 * generator) (inverse_letter (2 * generator)) (omega (arith, c.of_rank, rank)) flow.1 (cut_separates t.rank (2 * generator) set c) in
    omega (arith, most, flow.2, edges_capacity t (in_set set) is rank)

pub flows_flat : FullFlowsShowFlatness
flows_flat t is rank flows = (flat_by_capacities t is).1 (flat_flows t is rank flows)

pub flows_unique : FlowsAreUnique
flows_unique t fs gs are others generator x y l h k =
    let one = are.each generator l in
    let other = others.each generator l in
    first-one (edge_table t) (cell (get_or fs generator [])) (cell (get_or gs generator [])) (2 * generator) (inverse_letter (2 * generator)) one.first other.first
    (omega (arith, one.value, other.value)) x y h k
