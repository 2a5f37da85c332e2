-- Edges of a level and the generators among them, one edge after another.
use Rattle.std.specs.Prelude.{◌≡◌, ◌⊎◌, ℕ, ◌+◌, ◌<◌, ◌≤◌, List, [], ◌∷◌, ◌++◌, length, slice_get, Some, Contains}
use Rattle.std.specs.List.Sorted.{IsStrictlySortedBy}
use Rattle.wh_words.specs.Tuples.{TupleData}
use Rattle.wh_words.specs.Moves.{Move}
use Rattle.wh_words.specs.Levels.{Reaches}
use Rattle.wh_level.specs.Trees.{LevelData}
use Rattle.wh_level.specs.declared.edge_list.Edge.{Edge}
use Rattle.wh_stab.specs.Presentations.{Start, start_cmp, PresentationData}

-- The generators of a level, by the tree of its first walks and moves that lead to its root.
abbrev pub presentation : List Move → LevelData → List Start → PresentationData
presentation trace l gs = record { trace = trace; vertices = l.tuples; tree = l.parents; generators = gs }

-- The edge is one of the tree of first walks: its start is the parent of its end, by its move.
abbrev pub IsParentEdge : LevelData → Edge → Type 0
IsParentEdge l e = slice_get l.parents e.to ≡ Some (Some (e.from, e.via))

-- The start belongs to one of the first so many edges, which isn't one of the tree.
pub record StartsEarly (l : LevelData) (es : List Edge) (n : ℕ) (s : Start) : Type 0 where
  pub number : ℕ
  pub edge : Edge
  pub early : number < n
  pub stands : slice_get es number ≡ Some edge
  pub off : ¬ (IsParentEdge l edge)
  pub start : s ≡ (edge.from, edge.via)

-- The list has the starts of the first so many edges that aren't of the tree, in order and each once.
pub record AreFirstGenerators (l : LevelData) (es : List Edge) (n : ℕ) (gs : List Start) : Type 0 where
  pub sorted : IsStrictlySortedBy start_cmp gs
  pub each : (k : ℕ) (e : Edge) → k < n → slice_get es k ≡ Some e → ¬ (IsParentEdge l e) → Contains gs (e.from, e.via)
  pub early : (s : Start) → Contains gs s → StartsEarly l es n s
  pub few : length gs ≤ n

-- The moves are a walk in the level from the tuple at a place.
pub record IsWayFrom (l : LevelData) (v : ℕ) (ms : List Move) : Type 0 where
  pub tuple : TupleData
  pub end : TupleData
  pub starts : slice_get l.tuples v ≡ Some tuple
  pub walk : Reaches tuple ms end

-- The number of an edge was put behind a word: none where it is one of the tree, and else that of the generator with its start.
abbrev pub AddsNumber : LevelData → List Start → Edge → List ℕ → List ℕ → Type 0
AddsNumber l gs e old new = (IsParentEdge l e × (new ≡ old)) ⊎ ((k : ℕ) × (slice_get gs k ≡ Some (e.from, e.via)) × (new ≡ old ++ (k + 1) ∷ []))
