-- Shortening a tuple by cuts of least capacity, after Roig, Ventura and Weil 2007.
use Rattle.std.specs.Prelude.{◌≡◌, ℕ, ◌*◌, ◌<◌, ◌≤◌, List, [], ◌∷◌}
use Rattle.std.specs.Int.{bit_at}
use Rattle.wh_words.specs.LetterSets.{in_set}
use Rattle.wh_words.specs.Tuples.{TupleData}
use Rattle.wh_words.specs.Moves.{Move, IsCut, cut_move}
use Rattle.wh_words.specs.Action.{act}
use Rattle.wh_words.specs.Edges.{cap, deg}

-- Every letter of a set is in the other.
abbrev pub IsSubset : ℕ → ℕ → Type 0
IsSubset set other = (x : ℕ) → bit_at set x ≡ 1 → bit_at other x ≡ 1

-- No cut with multiplier a has a capacity below the degree of a.
abbrev pub IsFlatByCapacitiesAt : TupleData → ℕ → Type 0
IsFlatByCapacitiesAt t a = (set : ℕ) → IsCut t.rank a set → deg a t ≤ cap (in_set set) t

-- A tuple is flat by capacities where no cut of a generator, counted from 0, has a capacity below the generator's degree.
abbrev pub IsFlatByCapacities : TupleData → Type 0
IsFlatByCapacities t = (generator : ℕ) → IsFlatByCapacitiesAt t (2 * generator)

-- The least cut of multiplier a: its set has the least capacity, and lies in every set that has it.
pub record IsLeastCapacityCut (t : TupleData) (a set : ℕ) : Type 0 where
  pub valid : IsCut t.rank a set
  pub least : (other : ℕ) → IsCut t.rank a other → cap (in_set set) t ≤ cap (in_set other) t
  pub inmost : (other : ℕ) → IsCut t.rank a other → cap (in_set other) t ≡ cap (in_set set) t → IsSubset set other

-- The step of a tuple by capacities: the least cut of the first generator that has a cut of a capacity below its degree.
pub record IsCapacityStep (t : TupleData) (m : Move) : Type 0 where
  pub generator : ℕ
  pub set : ℕ
  pub is : m ≡ cut_move t.rank (2 * generator) set
  pub cut : IsLeastCapacityCut t (2 * generator) set
  pub below : cap (in_set set) t < deg (2 * generator) t
  pub earlier : (g : ℕ) → g < generator → IsFlatByCapacitiesAt t (2 * g)

-- The trace of a tuple by capacities: step after step until the tuple is flat by capacities.
pub data IsCapacityTrace : TupleData → List Move → TupleData → Type 0 where
  done : {t : TupleData} → IsFlatByCapacities t → IsCapacityTrace t [] t
  step : {t : TupleData} {m : Move} {ms : List Move} {end : TupleData} → IsCapacityStep t m → IsCapacityTrace (act t m) ms end → IsCapacityTrace t (m ∷ ms) end
