-- Shortening a tuple by cuts, after Lyndon and Schupp, I.4.
use Rattle.std.specs.Prelude.{◌≡◌, ℕ, ◌<◌, ◌≤◌, List, [], ◌∷◌}
use Rattle.wh_words.specs.Tuples.{TupleData, tuple_length}
use Rattle.wh_words.specs.Moves.{Move, IsCut, cut_move}
use Rattle.wh_words.specs.Action.{act}

-- The length of a tuple after a cut.
abbrev pub cut_length : TupleData → ℕ → ℕ → ℕ
cut_length t a set = tuple_length (act t (cut_move t.rank a set))

-- No cut with multiplier a shortens the tuple.
abbrev pub IsFlatAt : TupleData → ℕ → Type 0
IsFlatAt t a = (set : ℕ) → IsCut t.rank a set → tuple_length t ≤ cut_length t a set

-- A tuple is flat where no cut shortens it.
abbrev pub IsFlat : TupleData → Type 0
IsFlat t = (a : ℕ) → IsFlatAt t a

-- The cut of multiplier a that shortens a tuple most, and that has the first set of those that do.
pub record IsShortestCut (t : TupleData) (a set : ℕ) : Type 0 where
  pub valid : IsCut t.rank a set
  pub shortens : cut_length t a set < tuple_length t
  pub shortest : (other : ℕ) → IsCut t.rank a other → cut_length t a set ≤ cut_length t a other
  pub first : (other : ℕ) → IsCut t.rank a other → other < set → cut_length t a set < cut_length t a other

-- The step of a tuple: the shortest cut of the first multiplier, in the order of letters, that has a shortening cut.
pub record IsStep (t : TupleData) (m : Move) : Type 0 where
  pub multiplier : ℕ
  pub set : ℕ
  pub is : m ≡ cut_move t.rank multiplier set
  pub cut : IsShortestCut t multiplier set
  pub earlier : (a : ℕ) → a < multiplier → IsFlatAt t a

-- The trace of a tuple: step after step until the tuple is flat.
pub data IsTrace : TupleData → List Move → TupleData → Type 0 where
  done : {t : TupleData} → IsFlat t → IsTrace t [] t
  step : {t : TupleData} {m : Move} {ms : List Move} {end : TupleData} → IsStep t m → IsTrace (act t m) ms end → IsTrace t (m ∷ ms) end
