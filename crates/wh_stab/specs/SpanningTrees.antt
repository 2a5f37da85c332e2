-- Spanning trees of a level: each tuple but the root has a parent, from which a level move leads to it, after McCool 1975.
use Rattle.std.specs.Prelude.{◌≡◌, ℕ, zero, suc, cond, List, [], ◌∷◌, length, Some, None, slice_get}
use Rattle.std.specs.Ordering.{is_eq}
use Rattle.wh_words.specs.Tuples.{TupleData, tuple_cmp}
use Rattle.wh_words.specs.Moves.{Move}
use Rattle.wh_words.specs.Action.{act}
use Rattle.wh_words.specs.Levels.{IsLevelMove}
use Rattle.wh_level.specs.Trees.{Parents, IsRooted, path_to}

-- A level move leads from the tuple at one place to the tuple at another.
pub record IsLink (ts : List TupleData) (from : ℕ) (m : Move) (to : ℕ) : Type 0 where
  pub tuple : TupleData
  pub starts : slice_get ts from ≡ Some tuple
  pub moves : IsLevelMove tuple m
  pub ends : slice_get ts to ≡ Some (act tuple m)

-- The parents are a tree of these tuples: level moves lead from each parent, and from each tuple the parents lead back to the root, which has none.
pub record IsSpanningTree (root : TupleData) (ts : List TupleData) (parents : Parents) : Type 0 where
  pub count : length parents ≡ length ts
  pub links : (v p : ℕ) (m : Move) → slice_get parents v ≡ Some (Some (p, m)) → IsLink ts p m v
  pub at_root : (v : ℕ) → slice_get parents v ≡ Some None → slice_get ts v ≡ Some root
  pub rooted : IsRooted parents

-- The place of a tuple in a list, or the length of the list where it isn't in it.
abbrev pub place_of : List TupleData → TupleData → ℕ
place_of [] t = zero
place_of (u ∷ us) t = cond (is_eq (tuple_cmp u t)) zero (suc (place_of us t))

-- The path of the tree to a tuple.
abbrev pub tuple_path : List TupleData → Parents → TupleData → List Move
tuple_path ts parents t = path_to parents (place_of ts t)
