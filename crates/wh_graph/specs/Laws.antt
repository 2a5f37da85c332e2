-- What is known of capacities, degrees and lengths, as statements that contracts name, after Lyndon and Schupp, I.4.
use Rattle.std.specs.Prelude.{◌≡◌, ◌≢◌, ℕ, ◌+◌, ◌*◌, ◌<◌, ◌≤◌, ◌==◌, ◌&&◌, ◌||◌, Bool, not, List, length, count_by, ◌↔◌}
use Rattle.std.specs.List.{All, sum_by}
use Rattle.wh_words.specs.Limits.{most_rank}
use Rattle.wh_words.specs.Letters.{inverse_letter}
use Rattle.wh_words.specs.LetterSets.{in_set}
use Rattle.wh_words.specs.Tuples.{TupleData, IsTuple, tuple_length}
use Rattle.wh_words.specs.Moves.{Move, IsCut, IsKind}
use Rattle.wh_words.specs.Moves.Kind.{swap, invert}
use Rattle.wh_words.specs.Action.{act}
use Rattle.wh_words.specs.Edges.{edges, cap, deg}
use Rattle.wh_words.specs.Traces.{cut_length, IsFlat, IsStep, IsTrace}
use Rattle.wh_words.specs.CapacityTraces.{IsFlatByCapacities, IsCapacityStep, IsCapacityTrace}

-- ---- edges
-- There are as many edges as letters.
abbrev pub AsManyEdgesAsLetters : Type 0
AsManyEdgesAsLetters = (t : TupleData) → length (edges t) ≡ tuple_length t

-- The ends of an edge are two different letters of rank n.
abbrev pub JoinsTwo : ℕ → ℕ × ℕ → Type 0
JoinsTwo n e = (e.0 < 2 * n) × (e.1 < 2 * n) × (e.0 ≢ e.1)

-- Every edge joins two different letters of the rank.
abbrev pub EdgesJoinTwoLetters : Type 0
EdgesJoinTwoLetters = (t : TupleData) → IsTuple t → All (JoinsTwo t.rank) (edges t)

-- ---- degrees
-- Whether a letter is a or the inverse of a.
abbrev pub is_of : ℕ → ℕ → Bool
is_of a x = (x == a) || (x == inverse_letter a)

-- The degree of a is the number of letters a and inverses of a.
abbrev pub DegreeCountsLetters : Type 0
DegreeCountsLetters = (t : TupleData) (a : ℕ) → IsTuple t → deg a t ≡ sum_by (count_by (is_of a)) t.words

-- A letter and its inverse have one degree.
abbrev pub InversesHaveOneDegree : Type 0
InversesHaveOneDegree = (t : TupleData) (a : ℕ) → IsTuple t → deg (inverse_letter a) t ≡ deg a t

-- The set of one letter has the degree of the letter as its capacity.
abbrev pub SingletonHasTheDegree : Type 0
SingletonHasTheDegree = (t : TupleData) (a : ℕ) → IsTuple t → cap (λ x. x == a) t ≡ deg a t

-- ---- capacities
-- Two sets have one capacity where each letter of the rank is in just one of them.
abbrev pub ComplementsHaveOneCapacity : Type 0
ComplementsHaveOneCapacity = (t : TupleData) (A B : ℕ → Bool) → IsTuple t → ((x : ℕ) → x < 2 * t.rank → B x ≡ not (A x)) → cap B t ≡ cap A t

-- The capacities of the intersection and the union of two sets are together at most those of the two.
abbrev pub CapacitiesAreSubmodular : Type 0
CapacitiesAreSubmodular = (t : TupleData) (A B : ℕ → Bool) → cap (λ x. A x && B x) t + cap (λ x. A x || B x) t ≤ cap A t + cap B t

-- ---- lengths
-- A cut adds the capacity of its set to the length, and takes the degree of its multiplier from it.
abbrev pub LengthLaw : Type 0
LengthLaw = (t : TupleData) (a set : ℕ) → IsTuple t → IsCut t.rank a set → cut_length t a set + deg a t ≡ tuple_length t + cap (in_set set) t

-- A cut shortens a tuple exactly where the capacity of its set is below the degree of its multiplier.
abbrev pub CutsShortenBelowTheDegree : Type 0
CutsShortenBelowTheDegree = (t : TupleData) (a set : ℕ) → IsTuple t → IsCut t.rank a set → (cut_length t a set < tuple_length t) ↔ (cap (in_set set) t < deg a t)

-- Swaps keep the length.
abbrev pub SwapsKeepTheLength : Type 0
SwapsKeepTheLength = (t : TupleData) (k n : ℕ) → IsTuple t → IsKind n (swap k) → tuple_length (act t (record { rank = n; kind = swap k })) ≡ tuple_length t

-- Inversions keep the length.
abbrev pub InversionsKeepTheLength : Type 0
InversionsKeepTheLength = (t : TupleData) (k n : ℕ) → IsTuple t → IsKind n (invert k) → tuple_length (act t (record { rank = n; kind = invert k })) ≡ tuple_length t

-- ---- traces
-- A tuple is flat by lengths exactly where it is flat by capacities.
abbrev pub FlatIsByCapacities : Type 0
FlatIsByCapacities = (t : TupleData) → IsTuple t → IsFlat t ↔ IsFlatByCapacities t

-- The step by lengths is the step by capacities.
abbrev pub StepsAgree : Type 0
StepsAgree = (t : TupleData) (m : Move) → IsTuple t → IsStep t m ↔ IsCapacityStep t m

-- The trace by lengths is the trace by capacities.
abbrev pub TracesAgree : Type 0
TracesAgree = (t end : TupleData) (ms : List Move) → IsTuple t → t.rank ≤ most_rank → IsTrace t ms end ↔ IsCapacityTrace t ms end
