-- When a move can be made, and why it can't.
use Rattle.std.specs.Prelude.{◌≡◌, ℕ, ◌<◌, ◌≤◌, List, length, take}
use Rattle.wh_words.specs.Limits.{most_letters}
use Rattle.wh_words.specs.Tuples.{TupleData, Tuple, tuple_length}
use Rattle.wh_words.specs.Moves.{Move}
use Rattle.wh_words.specs.Action.{act_all}
use Rattle.wh_moves.specs.declared.action.ActError.{ActError}
use Rattle.wh_moves.specs.declared.action.ActError.TheVariants.{TooLong, OutOfMemory}

-- The tuple has at most as many letters as a tuple may have.
abbrev pub Fits : TupleData → Type 0
Fits t = tuple_length t ≤ most_letters

-- What an error tells of the tuple after the one move: too long exactly where it doesn't fit, with its length. Want of memory tells nothing.
abbrev pub IsActFault : TupleData → ActError → Type 0
IsActFault t (TooLong place n) = (place ≡ 1) × (n ≡ tuple_length t) × ¬ (Fits t)
IsActFault t OutOfMemory = Unit {0}

-- Every tuple on the way of a list of moves fits, the first and the last with them.
abbrev pub FitsOnTheWay : TupleData → List Move → Type 0
FitsOnTheWay t ms = (k : ℕ) → k ≤ length ms → Fits (act_all t (take k ms))

-- The tuple after move number place, counted from 1, is the first on the way that doesn't fit, and it has n letters.
pub record IsFirstTooLong (t : TupleData) (ms : List Move) (place n : ℕ) : Type 0 where
  pub within : place ≤ length ms
  pub count : n ≡ tuple_length (act_all t (take place ms))
  pub too_long : ¬ (Fits (act_all t (take place ms)))
  pub first : (k : ℕ) → k < place → Fits (act_all t (take k ms))

-- Two tuples have the rank and the number of words of a third, and room for every tuple that moves make of it.
pub record AreRoomy (t : TupleData) (now spare : Tuple) : Type 0 where
  pub rank : now.plain.rank ≡ t.rank
  pub count : length now.plain.words ≡ length t.words
  pub room : now.room ≡ most_letters
  pub word_room : now.word_room ≡ length t.words
  pub spare_room : spare.room ≡ most_letters
  pub spare_word_room : spare.word_room ≡ length t.words

-- What an error tells of a list of moves: where the way is first too long. Want of memory tells nothing.
abbrev pub IsActAllFault : TupleData → List Move → ActError → Type 0
IsActAllFault t ms (TooLong place n) = IsFirstTooLong t ms place n
IsActAllFault t ms OutOfMemory = Unit {0}
