-- Levels that grow: a search finds one tuple after another. It goes over them in this order, and over the level moves of each in theirs.
use Rattle.std.specs.Prelude.{◌≡◌, ◌⊎◌, ℕ, ◌<◌, ◌≤◌, true, List, [], ◌∷◌, ◌++◌, length, slice_get, Some, Contains}
use Rattle.std.specs.List.{All}
use Rattle.wh_words.specs.Tuples.{TupleData}
use Rattle.wh_words.specs.Moves.{Move}
use Rattle.wh_words.specs.Levels.{InLevel}
use Rattle.wh_level.specs.Trees.{Parents}
use Rattle.wh_level.specs.Searches.{SearchData, IsSearched}

-- The tuples that were found, in the order in which they were, and for each its parent.
pub record GrowingData : Type 0 where
  pub tuples : List TupleData
  pub parents : Parents

-- A move leads from the tuple at a place to a tuple, which is found now if it wasn't before.
abbrev pub IsMet : GrowingData → ℕ → Move → TupleData → GrowingData → Type 0
IsMet old from m t new =
    (Contains old.tuples t × (new ≡ old))
    ⊎ ((¬ (Contains old.tuples t)) × (new ≡ record { tuples = old.tuples ++ t ∷ []; parents = old.parents ++ Some (from, m) ∷ [] }))

-- What the search knows is just this: each tuple was found, and stands at the place of its turn.
pub record IsFoundInTurn (s : SearchData) (g : GrowingData) : Type 0 where
  pub parents : s.parents ≡ g.parents
  pub count : length s.queue ≡ length g.tuples
  pub queue : (k : ℕ) → k < length g.tuples → slice_get s.queue k ≡ Some k
  pub seen : (k : ℕ) → k < length g.tuples → slice_get s.seen k ≡ Some true

-- The search for first walks from the root has found these tuples and gone over the first so many of them.
pub record HasGoneOver (root : TupleData) (g : GrowingData) (at : ℕ) : Type 0 where
  pub within : at ≤ length g.tuples
  pub search : SearchData
  pub searched : IsSearched root g.tuples search at
  pub found : IsFoundInTurn search g

-- The search has gone over so many tuples, or has found more tuples of the level than the limit.
abbrev pub GoesOn : TupleData → ℕ → GrowingData → ℕ → Type 0
GoesOn root limit g at = HasGoneOver root g at ⊎ ((limit < length g.tuples) × All (InLevel root) g.tuples)
