-- Generators of a stabiliser by the edges of a level that are off a tree, and the numbers that spell a way, after McCool 1975.
use Rattle.std.specs.Prelude.{◌≡◌, ℕ, suc, ◌-◌, ◌≤◌, List, [], ◌∷◌, ◌++◌, length, Option, Some, None, slice_get, Contains, ◌↔◌}
use Rattle.std.specs.List.Sorted.{IsStrictlySortedBy}
use Rattle.std.specs.Ordering.{nat_cmp, ordering_then}
use Rattle.std.specs.declared.cmp.Ordering.{Ordering}
use Rattle.wh_words.specs.Limits.{most_rank}
use Rattle.wh_words.specs.Tuples.{TupleData, IsTuple}
use Rattle.wh_words.specs.Moves.{Move, move_cmp}
use Rattle.wh_words.specs.MoveLists.{inverse_list}
use Rattle.wh_words.specs.Action.{act}
use Rattle.wh_words.specs.Levels.{IsLevelMove, IsLevel}
use Rattle.wh_peak.specs.Stabilisers.{LeadsToFlat}
use Rattle.wh_level.specs.Trees.{Parents}
use Rattle.wh_stab.specs.SpanningTrees.{IsSpanningTree, tuple_path}

-- ---- generators
-- An edge of a level by its start: the place of a tuple, and a level move of it.
abbrev pub Start : Type 0
Start = ℕ × Move

-- Starts are compared by their places, and then by their moves.
abbrev pub start_cmp : Start → Start → Ordering
start_cmp s r = ordering_then (nat_cmp s.0 r.0) (move_cmp s.1 r.1)

-- What presents a stabiliser: moves that lead from the tuple to the root of a level, the tuples of the level in order, a tree of it, and the starts of the edges that are generators.
pub record PresentationData : Type 0 where
  pub trace : List Move
  pub vertices : List TupleData
  pub tree : Parents
  pub generators : List Start

-- The edge by a move from a tuple is one of the tree: its end has the tuple as its parent, by this move.
pub record IsOfTree (p : PresentationData) (t : TupleData) (m : Move) : Type 0 where
  pub from : ℕ
  pub to : ℕ
  pub starts : slice_get p.vertices from ≡ Some t
  pub ends : slice_get p.vertices to ≡ Some (act t m)
  pub parent : slice_get p.tree to ≡ Some (Some (from, m))

-- An edge off the tree: a level move of a vertex that isn't one of the tree.
pub record IsOffTree (p : PresentationData) (s : Start) : Type 0 where
  pub tuple : TupleData
  pub starts : slice_get p.vertices s.0 ≡ Some tuple
  pub moves : IsLevelMove tuple s.1
  pub off : ¬ (IsOfTree p tuple s.1)

-- The generators are the edges off the tree in the order of edges, each once.
pub record AreGenerators (p : PresentationData) : Type 0 where
  pub sorted : IsStrictlySortedBy start_cmp p.generators
  pub exact : (s : Start) → Contains p.generators s ↔ IsOffTree p s

-- The stabiliser of a tuple is presented: moves lead to a flat root, the vertices are its level, and the generators are the edges off a tree of it.
pub record IsPresented (t root : TupleData) (p : PresentationData) : Type 0 where
  pub tuple : IsTuple t
  pub rank : t.rank ≤ most_rank
  pub leads : LeadsToFlat t p.trace root
  pub level : IsLevel root p.vertices
  pub tree : IsSpanningTree root p.vertices p.tree
  pub generators : AreGenerators p

-- ---- generators as moves
-- The path of the tree to a vertex.
abbrev pub path_of : PresentationData → TupleData → List Move
path_of p t = tuple_path p.vertices p.tree t

-- To the root, along the path to a vertex, by a move of it, back along the path to its end, and back from the root. Without a vertex there is no such way.
abbrev pub way_round : PresentationData → Move → Option TupleData → List Move
way_round p m None = []
way_round p m (Some t) = p.trace ++ ((path_of p t ++ m ∷ inverse_list (path_of p (act t m))) ++ inverse_list p.trace)

-- The moves of the generator with a start.
abbrev pub start_moves : PresentationData → Option Start → List Move
start_moves p None = []
start_moves p (Some s) = way_round p s.1 (slice_get p.vertices s.0)

-- The moves of a generator by its number. Numbers count from 1.
abbrev pub generator_moves : PresentationData → ℕ → List Move
generator_moves p k = start_moves p (slice_get p.generators (k - 1))

-- The moves of a word of generators: those of its numbers, one after the other.
abbrev pub word_moves : PresentationData → List ℕ → List Move
word_moves p [] = []
word_moves p (k ∷ ks) = generator_moves p k ++ word_moves p ks

-- A number of a generator.
abbrev pub IsNumber : PresentationData → ℕ → Type 0
IsNumber p k = (1 ≤ k) × (k ≤ length p.generators)

-- ---- ways through the level
-- The numbers of the edges on a way from a tuple, one after the other, where edges of the tree are left out.
pub data AreNumbers (p : PresentationData) : TupleData → List Move → List ℕ → Type 0 where
  done : {t : TupleData} → AreNumbers p t [] []
  on_tree : {t : TupleData} {m : Move} {ms : List Move} {ks : List ℕ} → IsOfTree p t m → AreNumbers p (act t m) ms ks → AreNumbers p t (m ∷ ms) ks
  off_tree : {t : TupleData} {m : Move} {ms : List Move} {ks : List ℕ} {v k : ℕ} → slice_get p.vertices v ≡ Some t → slice_get p.generators k ≡ Some (v, m) → AreNumbers p (act t m) ms ks →
      AreNumbers p t (m ∷ ms) (suc k ∷ ks)
