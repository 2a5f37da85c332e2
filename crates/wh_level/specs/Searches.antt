-- The search for the first walks of a level: it goes over the places in the order in which it finds them.
use Rattle.std.specs.Prelude.{◌≡◌, ◌≢◌, ℕ, ◌+◌, ◌<◌, ◌≤◌, Bool, true, false, not, cond, List, [], ◌∷◌, ◌++◌, length, map, replicate, slice_set as set, slice_get, slice_index_or, Some, None, Contains}
use Rattle.std.specs.List.{All, count_by}
use Rattle.std.specs.Ordering.{is_gt, nat_cmp, ordering_then}
use Rattle.std.specs.Cmp.Lexicographic.{slice_cmp}
use Rattle.std.specs.declared.cmp.Ordering.{Ordering}
use Rattle.std.specs.declared.cmp.Ordering.TheVariants.{Less}
use Rattle.wh_words.specs.Tuples.{TupleData}
use Rattle.wh_words.specs.Moves.{Move, move_cmp}
use Rattle.wh_words.specs.Action.{act}
use Rattle.wh_words.specs.Levels.{IsLevelMove, Reaches}
use Rattle.wh_level.specs.Trees.{Parents}

-- ---- the order of walks
-- Walks are compared by length first, and then move by move.
abbrev pub walk_cmp : List Move → List Move → Ordering
walk_cmp p q = ordering_then (nat_cmp (length p) (length q)) (slice_cmp move_cmp p q)

-- The first walk is the same as the second or comes before it.
pub record NoLater (p q : List Move) : Type 0 where
  pub holds : is_gt (walk_cmp p q) ≡ false

-- The first walk comes before the second.
pub record Earlier (p q : List Move) : Type 0 where
  pub holds : walk_cmp p q ≡ Less

-- ---- what the search knows
-- For each place its parent and whether it was found, and the places in the order in which they were found.
pub record SearchData : Type 0 where
  pub parents : Parents
  pub seen : List Bool
  pub queue : List ℕ

-- What is known after a move led from a place to another: that it was found, if it wasn't before.
abbrev pub follow : SearchData → ℕ → Move → ℕ → SearchData
follow s from m to = cond (slice_index_or s.seen to false) s (record { parents = set s.parents to (Some (from, m)); seen = set s.seen to true; queue = s.queue ++ to ∷ [] })

-- A place that was found, its tuple, and the walk on which it was found.
pub record Stop : Type 0 where
  pub place : ℕ
  pub tuple : TupleData
  pub path : List Move

-- The parent of a stop: none if its walk is empty, and else the stop before its last move.
pub data HasParent (parents : Parents) (stops : List Stop) (s : Stop) : Type 0 where
  none : s.path ≡ [] → slice_get parents s.place ≡ Some None → HasParent parents stops s
  some : (e : Stop) (m : Move) → Contains stops e → s.path ≡ e.path ++ m ∷ [] → slice_get parents s.place ≡ Some (Some (e.place, m)) → HasParent parents stops s

-- A stop has the tuple of its place, to which its walk leads, and the parent that its walk tells.
pub record IsStop (root : TupleData) (tuples : List TupleData) (parents : Parents) (stops : List Stop) (s : Stop) : Type 0 where
  pub at : slice_get tuples s.place ≡ Some s.tuple
  pub walk : Reaches root s.path s.tuple
  pub parent : HasParent parents stops s

-- A move was followed from a stop: it leads to a stop whose walk is no later than the one over here.
pub record IsFollowed (stops : List Stop) (s : Stop) (m : Move) : Type 0 where
  pub stop : Stop
  pub found : Contains stops stop
  pub is : stop.tuple ≡ act s.tuple m
  pub early : NoLater stop.path (s.path ++ m ∷ [])

-- The walks of all stops come before this one.
abbrev pub AllEarlier : List Stop → List Move → Type 0
AllEarlier stops p = All (λ s. Earlier s.path p) stops

-- The stop of the root, on the empty walk.
pub record HasStart (root : TupleData) (stops : List Stop) : Type 0 where
  pub stop : Stop
  pub found : Contains stops stop
  pub tuple : stop.tuple ≡ root
  pub path : stop.path ≡ []

-- What is known are these stops, each at its own place, in the order of their walks. A walk is no longer than the number of stops before it.
pub record IsKnown (root : TupleData) (tuples : List TupleData) (s : SearchData) (stops : List Stop) : Type 0 where
  pub each : All (IsStop root tuples s.parents stops) stops
  pub start : HasStart root stops
  pub rising : (j k : ℕ) (d : Stop) → j < k → k < length stops → Earlier (slice_index_or stops j d).path (slice_index_or stops k d).path
  pub apart : (j k : ℕ) (d : Stop) → j < k → k < length stops → (slice_index_or stops j d).place ≢ (slice_index_or stops k d).place
  pub short : (k : ℕ) (d : Stop) → k < length stops → length (slice_index_or stops k d).path ≤ k
  pub queue : s.queue ≡ map (λ e. e.place) stops
  pub parents : length s.parents ≡ length tuples
  pub places : length s.seen ≡ length tuples
  pub seen : (v : ℕ) → slice_get s.seen v ≡ Some true → Contains s.queue v
  pub queued : All (λ v. slice_get s.seen v ≡ Some true) s.queue
  pub room : count_by not s.seen + length s.queue ≡ length tuples

-- All moves of the first stops, so many of them, were followed, and each walk comes before those over the others.
pub record IsSearched (root : TupleData) (tuples : List TupleData) (s : SearchData) (at : ℕ) : Type 0 where
  pub stops : List Stop
  pub known : IsKnown root tuples s stops
  pub done : (k : ℕ) (d : Stop) → k < at → k < length stops → (m : Move) → IsLevelMove (slice_index_or stops k d).tuple m → IsFollowed stops (slice_index_or stops k d) m
  pub ahead : (k : ℕ) (d : Stop) → at ≤ k → k < length stops → (m : Move) → AllEarlier stops ((slice_index_or stops k d).path ++ m ∷ [])

-- What is known at the start: the place of the root alone was found, of so many places.
abbrev pub started : ℕ → ℕ → SearchData
started n root = record { parents = replicate n None; seen = set (replicate n false) root true; queue = root ∷ [] }

-- There is a cell for each of so many places.
pub record HasCells (n : ℕ) (s : SearchData) : Type 0 where
  pub parents : length s.parents ≡ n
  pub seen : length s.seen ≡ n

-- The search went over a place: where it had come to the place, it has come past it.
abbrev pub GoesOver : List TupleData → ℕ → SearchData → SearchData → Type 0
GoesOver tuples v old new = (root : TupleData) (at : ℕ) → slice_get old.queue at ≡ Some v → IsSearched root tuples old at → IsSearched root tuples new (at + 1)

-- The image of a tuple under one of its level moves isn't among these.
pub record IsAbsentImage (tuples : List TupleData) (t u : TupleData) : Type 0 where
  pub via : Move
  pub moves : IsLevelMove t via
  pub is : u ≡ act t via
  pub absent : ¬ (Contains tuples u)
