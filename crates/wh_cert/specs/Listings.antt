-- Images of a tuple in a list of tuples.
use Rattle.std.specs.Prelude.{◌≡◌, ℕ, ◌*◌, List, Contains}
use Rattle.wh_words.specs.Limits.{most_words, most_letters}
use Rattle.wh_words.specs.Tuples.{TupleData, Tuple}
use Rattle.wh_words.specs.Moves.{Move, cut_move}
use Rattle.wh_words.specs.Moves.Kind.{swap, invert}
use Rattle.wh_words.specs.Action.{act}
use Rattle.wh_words.specs.Levels.{IsLevelMove}

-- If the move is a level move of the tuple, the image is in the list.
abbrev pub StaysIn : List TupleData → TupleData → Move → Type 0
StaysIn ts t m = IsLevelMove t m → Contains ts (act t m)

-- The tuple stays in the list under all swaps.
abbrev pub SwapsStay : List TupleData → TupleData → Type 0
SwapsStay ts t = (k : ℕ) → StaysIn ts t (record { rank = t.rank; kind = swap k })

-- It does under all inversions.
abbrev pub InversionsStay : List TupleData → TupleData → Type 0
InversionsStay ts t = (k : ℕ) → StaysIn ts t (record { rank = t.rank; kind = invert k })

-- It does under all cuts with a multiplier.
abbrev pub CutsStayWith : List TupleData → TupleData → ℕ → Type 0
CutsStayWith ts t a = (set : ℕ) → StaysIn ts t (cut_move t.rank a set)

-- It does under all cuts with generators as multipliers.
abbrev pub CutsStay : List TupleData → TupleData → Type 0
CutsStay ts t = (g : ℕ) → CutsStayWith ts t (2 * g)

-- Every tuple fits in the rooms of this one.
pub record IsRoomy (t : Tuple) : Type 0 where
  pub letters : t.room ≡ most_letters
  pub words : t.word_room ≡ most_words
