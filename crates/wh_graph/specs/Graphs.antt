-- The Whitehead graph as a network, after Lyndon and Schupp, I.4.
use Rattle.std.specs.Prelude.{◌≡◌, ℕ, ◌*◌, ◌^◌, ◌<◌, ◌≤◌, Bool, count_by, ◌↔◌}
use Rattle.wh_words.specs.Limits.{most_rank}
use Rattle.wh_words.specs.Tuples.{TupleData, IsTuple}
use Rattle.wh_words.specs.Edges.{edges, joins, cap, deg}
use Rattle.wh_words.specs.Letters.{inverse_letter}
use Rattle.wh_words.specs.LetterSets.{in_set}
use Rattle.wh_words.specs.Flows.{degree, capacity_of_set, Separates, IsLeastCut}
use Rattle.wh_words.specs.CapacityTraces.{IsFlatByCapacitiesAt, IsLeastCapacityCut}
use Rattle.wh_flow.specs.Tables.{cell}
use Rattle.wh_flow.specs.Nets.{Net}

-- The network is the Whitehead graph of a tuple: it has the rank, and for each two letters the number of edges that join them.
pub record IsGraph (net : Net) (t : TupleData) : Type 0 where
  pub rank : net.rank ≡ t.rank
  pub edges : (x y : ℕ) → x < 52 → y < 52 → cell net.cells x y ≡ count_by (joins x y) (edges t)

-- In the Whitehead graph of a tuple a set of letters has the capacity that it has in the tuple.
abbrev pub GraphHasTheCapacities : Type 0
GraphHasTheCapacities = (net : Net) (t : TupleData) (A : ℕ → Bool) → IsTuple t → t.rank ≤ most_rank → IsGraph net t → capacity_of_set (cell net.cells) A ≡ cap A t

-- In the Whitehead graph of a tuple a letter has the degree that it has in the tuple.
abbrev pub GraphHasTheDegrees : Type 0
GraphHasTheDegrees = (net : Net) (t : TupleData) (a : ℕ) → IsTuple t → t.rank ≤ most_rank → IsGraph net t → a < 52 → degree (cell net.cells) a ≡ deg a t

-- In the Whitehead graph of a tuple the least cut between a letter and its inverse is the least cut of that multiplier.
abbrev pub GraphHasTheLeastCuts : Type 0
GraphHasTheLeastCuts = (net : Net) (t : TupleData) (a set : ℕ) → IsTuple t → t.rank ≤ most_rank → IsGraph net t → a < 2 * t.rank → set < 2 ^ (2 * t.rank) →
    IsLeastCut (cell net.cells) a (inverse_letter a) (in_set set) ↔ IsLeastCapacityCut t a set

-- A tuple is flat by capacities at a letter exactly where in its Whitehead graph no set that separates the letter from its inverse has a capacity below the degree.
abbrev pub GraphTellsFlatness : Type 0
GraphTellsFlatness = (net : Net) (t : TupleData) (a : ℕ) → IsTuple t → t.rank ≤ most_rank → IsGraph net t → a < 2 * t.rank →
    IsFlatByCapacitiesAt t a ↔ ((A : ℕ → Bool) → Separates a (inverse_letter a) A → degree (cell net.cells) a ≤ capacity_of_set (cell net.cells) A)
