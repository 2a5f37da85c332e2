-- The tree of first walks of a level: each tuple but the root has a parent and a move that leads from it.
use Rattle.std.specs.Prelude.{◌≡◌, ◌≢◌, ℕ, zero, suc, ◌<◌, ◌≤◌, List, [], ◌∷◌, length, reverse, get_or, Option, Some, None, slice_get, ◌↔◌}
use Rattle.wh_words.specs.Limits.{most_level_rank}
use Rattle.wh_words.specs.Tuples.{TupleData}
use Rattle.wh_words.specs.Moves.{Move}
use Rattle.wh_words.specs.Levels.{IsLevel, IsFirstWalk}

-- For each tuple of a level, by its place, the place of its parent and the move that leads from there.
abbrev pub Parents : Type 0
Parents = List (Option (ℕ × Move))

-- The parents lead from a place back to the root by these moves, the last one first.
pub data LeadsBack (parents : Parents) : ℕ → List Move → Type 0 where
  root : {v : ℕ} → slice_get parents v ≡ Some None → LeadsBack parents v []
  step : {v p : ℕ} {m : Move} {ms : List Move} → slice_get parents v ≡ Some (Some (p, m)) → LeadsBack parents p ms → LeadsBack parents v (m ∷ ms)

-- The parents lead from the place of a tuple back to the root on its first walk, which is shorter than the level.
pub record IsWalkedTo (root : TupleData) (parents : Parents) (v : ℕ) (t : TupleData) : Type 0 where
  pub back : List Move
  pub leads : LeadsBack parents v back
  pub first : IsFirstWalk root t (reverse back)
  pub short : length back < length parents

-- The parents are those of the level: from each place they lead back to the root, which alone has none, on the first walk.
pub record AreParents (root : TupleData) (ts : List TupleData) (parents : Parents) : Type 0 where
  pub count : length parents ≡ length ts
  pub walks : (v : ℕ) (t : TupleData) → slice_get ts v ≡ Some t → IsWalkedTo root parents v t
  pub none : (v : ℕ) (t : TupleData) → slice_get ts v ≡ Some t → (slice_get parents v ≡ Some None) ↔ (t ≡ root)

-- A level as contracts see it: its root, its tuples in order, and their parents.
pub record LevelData : Type 0 where
  pub root : TupleData
  pub tuples : List TupleData
  pub parents : Parents

-- The tuples are the level of the root, whose rank is one of levels, and the parents are theirs.
pub record IsClosedLevel (l : LevelData) : Type 0 where
  pub rank : l.root.rank ≤ most_level_rank
  pub level : IsLevel l.root l.tuples
  pub parents : AreParents l.root l.tuples l.parents

-- ---- paths from the root
-- A way back over the parent that stands at a place, given the ways back from others. It ends where there is none.
abbrev pub back_over : (ℕ → List Move) → Option (Option (ℕ × Move)) → List Move
back_over back None = []
back_over back (Some None) = []
back_over back (Some (Some p)) = p.1 ∷ back p.0

-- The moves that lead back from a place along the parents, the last one first, at most so many.
unfoldable pub back_from : Parents → ℕ → ℕ → List Move
back_from parents zero v = []
back_from parents (suc n) v = back_over (back_from parents n) (slice_get parents v)

-- The moves of the path from the root to a place.
abbrev pub path_to : Parents → ℕ → List Move
path_to parents v = reverse (back_from parents (length parents) v)

-- The parents lead back from a place to one without a parent, by fewer moves than there are places.
pub record HasWayBack (parents : Parents) (v : ℕ) : Type 0 where
  pub back : List Move
  pub leads : LeadsBack parents v back
  pub short : length back < length parents

-- They do so from each place.
abbrev pub IsRooted : Parents → Type 0
IsRooted parents = (v : ℕ) → v < length parents → HasWayBack parents v

-- ---- other places
-- A parent whose place has become another one.
abbrev pub moved_parent : List ℕ → Option (ℕ × Move) → Option (ℕ × Move)
moved_parent places None = None
moved_parent places (Some p) = Some (get_or places p.0 0, p.1)

-- The first so many of the parents stand at their other places, and tell other places.
pub record AreMoved (places : List ℕ) (parents : Parents) (n : ℕ) (moved : Parents) : Type 0 where
  pub count : length moved ≡ length places
  pub each : (k : ℕ) → k < n → slice_get moved (get_or places k 0) ≡ Some (moved_parent places (get_or parents k None))

-- Each tuple has another place, and two have different ones.
pub record AreOtherPlaces (places : List ℕ) : Type 0 where
  pub within : (k : ℕ) → k < length places → get_or places k 0 < length places
  pub apart : (j k : ℕ) → j < k → k < length places → get_or places j 0 ≢ get_or places k 0

-- The parents tell places of so many tuples.
abbrev pub AreWithin : ℕ → Parents → Type 0
AreWithin n parents = (v p : ℕ) (m : Move) → slice_get parents v ≡ Some (Some (p, m)) → p < n
