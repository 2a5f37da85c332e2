-- What the flows of generators show, as statements that contracts name, after Roig, Ventura and Weil 2007.
use Rattle.std.specs.Prelude.{◌≡◌, ℕ, ◌*◌, ◌<◌, ◌≤◌, List, [], get_or}
use Rattle.wh_words.specs.Limits.{most_rank}
use Rattle.wh_words.specs.Tuples.{TupleData, IsTuple}
use Rattle.wh_words.specs.Traces.{IsFlat}
use Rattle.wh_words.specs.Flows.{IsFlow, HasValue}
use Rattle.wh_words.specs.Edges.{deg}
use Rattle.wh_words.specs.Letters.{inverse_letter}
use Rattle.wh_words.specs.TupleFlows.{edge_table}
use Rattle.wh_flow.specs.Tables.{cell}
use Rattle.wh_reduce.specs.FlowLists.{AreFlows}

-- For each generator of a tuple, counted from 0, there is a flow from it to its inverse that has its degree as its value.
abbrev pub HasFullFlows : TupleData → Type 0
HasFullFlows t = (generator : ℕ) → generator < t.rank → (f : ℕ → ℕ → ℕ) × IsFlow (edge_table t) f (2 * generator) (inverse_letter (2 * generator)) × HasValue f (2 * generator) (deg (2 * generator) t)

-- Where each generator has such a flow, whatever it is, no cut shortens the tuple. So flows are a certificate.
abbrev pub FullFlowsShowFlatness : Type 0
FullFlowsShowFlatness = (t : TupleData) → IsTuple t → t.rank ≤ most_rank → HasFullFlows t → IsFlat t

-- A tuple has one list of flows.
abbrev pub FlowsAreUnique : Type 0
FlowsAreUnique = (t : TupleData) (fs gs : List (List ℕ)) → AreFlows t fs → AreFlows t gs →
    (generator x y : ℕ) → generator < t.rank → x < 52 → y < 52 → cell (get_or fs generator []) x y ≡ cell (get_or gs generator []) x y
