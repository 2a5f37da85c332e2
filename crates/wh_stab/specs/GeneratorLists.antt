-- Which generators of a stabiliser can be written as lists of moves.
use Rattle.std.specs.Prelude.{◌≡◌, ℕ, ◌-◌, ◌≤◌, length, map, slice_get, Some, Contains}
use Rattle.wh_words.specs.Limits.{most_letters}
use Rattle.wh_words.specs.Tuples.{TupleData, tuple_length}
use Rattle.wh_words.specs.Action.{act}
use Rattle.wh_level.specs.Trees.{IsRooted}
use Rattle.wh_stab.specs.Presentations.{Start, PresentationData, IsNumber}
use Rattle.wh_stab.specs.declared.stab.Stab.{Stab}

-- What a stabiliser presents.
abbrev pub presentation_of : Stab → PresentationData
presentation_of s = record { trace = s.trace; vertices = map (λ t. t.plain) s.vertices; tree = s.tree.parent; generators = s.generators }

-- The edge with a start leads from a vertex, by a move of its rank, to a vertex.
pub record Joins (p : PresentationData) (s : Start) : Type 0 where
  pub tuple : TupleData
  pub starts : slice_get p.vertices s.0 ≡ Some tuple
  pub rank : tuple.rank ≡ s.1.rank
  pub end : Contains p.vertices (act tuple s.1)
  pub short : tuple_length (act tuple s.1) ≤ most_letters

-- The number is one of a generator whose edge joins vertices; no vertex stands twice, each has an entry in the tree, and from each the parents lead back to one that has none.
pub record CanList (p : PresentationData) (k : ℕ) : Type 0 where
  pub number : IsNumber p k
  pub distinct : (v w : ℕ) (t : TupleData) → slice_get p.vertices v ≡ Some t → slice_get p.vertices w ≡ Some t → v ≡ w
  pub count : length p.tree ≡ length p.vertices
  pub rooted : IsRooted p.tree
  pub joins : (s : Start) → slice_get p.generators (k - 1) ≡ Some s → Joins p s
