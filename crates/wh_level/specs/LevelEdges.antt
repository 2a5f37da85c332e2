-- The edges of a level: its level moves, each from a tuple to its image, by their places (Lyndon and Schupp, I.4).
use Rattle.std.specs.Prelude.{◌≡◌, ◌⊎◌, ℕ, ◌<◌, List, length, slice_get, Some, Contains, ◌↔◌}
use Rattle.std.specs.List.Sorted.{IsStrictlySortedBy}
use Rattle.std.specs.Ordering.{nat_cmp, ordering_then}
use Rattle.std.specs.declared.cmp.Ordering.{Ordering}
use Rattle.wh_words.specs.Tuples.{TupleData}
use Rattle.wh_words.specs.Moves.{Move, move_cmp}
use Rattle.wh_words.specs.Action.{act}
use Rattle.wh_words.specs.Levels.{IsLevelMove}
use Rattle.wh_expand.specs.Rows.{AreLevelMoves}
use Rattle.wh_level.specs.Trees.{LevelData}
use Rattle.wh_level.specs.declared.edge_list.Edge.{Edge}

-- Edges are compared by the places that they lead from, and then by their moves.
abbrev pub edge_cmp : Edge → Edge → Ordering
edge_cmp d e = ordering_then (nat_cmp d.from e.from) (move_cmp d.via e.via)

-- From the place of a tuple of the level, by one of its level moves, the edge leads to the place of its image.
pub record IsEdge (l : LevelData) (e : Edge) : Type 0 where
  pub start : TupleData
  pub stands : slice_get l.tuples e.from ≡ Some start
  pub moves : IsLevelMove start e.via
  pub leads : slice_get l.tuples e.to ≡ Some (act start e.via)

-- The list is all edges of the level in order, each once.
pub record AreEdges (l : LevelData) (es : List Edge) : Type 0 where
  pub sorted : IsStrictlySortedBy edge_cmp es
  pub exact : (e : Edge) → Contains es e ↔ IsEdge l e

-- The level has more edges than the limit.
abbrev pub HasMoreEdges : LevelData → ℕ → Type 0
HasMoreEdges l limit = (es : List Edge) → AreEdges l es → limit < length es

-- At this number, counted from 0, stands an edge from this place by this move.
pub record IsEdgeNumber (es : List Edge) (from : ℕ) (via : Move) (k : ℕ) : Type 0 where
  pub edge : Edge
  pub stands : slice_get es k ≡ Some edge
  pub starts : edge.from ≡ from
  pub moves : edge.via ≡ via

-- There is no edge from this place by this move.
abbrev pub LacksEdge : List Edge → ℕ → Move → Type 0
LacksEdge es from via = (k : ℕ) → ¬ (IsEdgeNumber es from via k)

-- ---- one tuple after another
-- The moves are all level moves of the tuple at a place.
pub record AreMovesAt (l : LevelData) (v : ℕ) (ms : List Move) : Type 0 where
  pub tuple : TupleData
  pub stands : slice_get l.tuples v ≡ Some tuple
  pub are : AreLevelMoves tuple ms

-- The edge leads from one of the first so many tuples, or from the next by one of these moves.
abbrev pub IsEarly : ℕ → List Move → Edge → Type 0
IsEarly n ms e = (e.from < n) ⊎ ((e.from ≡ n) × Contains ms e.via)

-- The list is all edges that lead from the first so many tuples, and from the next by these moves, in order and each once.
pub record AreFirstEdges (l : LevelData) (n : ℕ) (ms : List Move) (es : List Edge) : Type 0 where
  pub sorted : IsStrictlySortedBy edge_cmp es
  pub exact : (e : Edge) → Contains es e ↔ (IsEdge l e × IsEarly n ms e)
