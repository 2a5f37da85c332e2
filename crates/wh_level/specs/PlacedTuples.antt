-- The tuples of rows by their places, and the rooms in which their images are made.
use Rattle.std.specs.Prelude.{◌≡◌, ℕ, ◌≤◌, List, length, get_or, Some, slice_get}
use Rattle.std.specs.List.Sorted.{IsStrictlySortedBy}
use Rattle.wh_words.specs.Limits.{most_letters}
use Rattle.wh_words.specs.Tuples.{TupleData, Tuple, tuple_cmp, tuple_length}
use Rattle.wh_sets.specs.TupleSets.{HaveSameTuples}

-- By their places stand the tuples of rows in order, each once.
pub record IsPlacing (ts places : List TupleData) : Type 0 where
  pub sorted : IsStrictlySortedBy tuple_cmp places
  pub same : HaveSameTuples places ts

-- For each place the number of a row that has its tuple.
pub record AreRowNumbers (ts places : List TupleData) (numbers : List ℕ) : Type 0 where
  pub count : length numbers ≡ length places
  pub rows : (v : ℕ) (t : TupleData) → slice_get places v ≡ Some t → slice_get ts (get_or numbers v 0) ≡ Some t

-- The data fits in the rooms of a tuple, which has at most 4,096 letters.
pub record HasRoomsFor (into : Tuple) (t : TupleData) : Type 0 where
  pub letters : tuple_length t ≤ into.room
  pub words : length t.words ≤ into.word_room
  pub within : into.room ≤ most_letters

-- The rooms stay.
pub record KeepsRooms (old new : Tuple) : Type 0 where
  pub letters : new.room ≡ old.room
  pub words : new.word_room ≡ old.word_room

-- For each tuple of a list its place in another.
pub record ArePlaces (ts us : List TupleData) (places : List ℕ) : Type 0 where
  pub count : length places ≡ length ts
  pub stands : (k : ℕ) (t : TupleData) → slice_get ts k ≡ Some t → slice_get us (get_or places k 0) ≡ Some t
