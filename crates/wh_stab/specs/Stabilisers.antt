-- What is answered of the stabiliser of a tuple.
use Rattle.std.specs.Prelude.{◌≡◌, ℕ, ◌<◌, ◌≤◌, List, length, map}
use Rattle.wh_words.specs.Limits.{most_level_edges, most_relators}
use Rattle.wh_words.specs.Tuples.{TupleData}
use Rattle.wh_level.specs.Trees.{LevelData}
use Rattle.wh_level.specs.LevelEdges.{AreEdges, HasMoreEdges}
use Rattle.wh_level.specs.declared.edge_list.Edge.{Edge}
use Rattle.wh_stab.specs.Presentations.{IsPresented}
use Rattle.wh_stab.specs.GeneratorLists.{presentation_of}
use Rattle.wh_stab.specs.Relators.{relator_of, AreRelators, relator_count}
use Rattle.wh_stab.specs.declared.stab.Stab.{Stab}
use Rattle.wh_stab.specs.declared.stab.Stabilised.{Stabilised}
use Rattle.wh_stab.specs.declared.stab.Stabilised.TheVariants.{Done, Edges, Relators}

-- The level has at most so many edges.
abbrev pub HasFewEdges : LevelData → ℕ → Type 0
HasFewEdges l limit = (es : List Edge) × AreEdges l es × (length es ≤ limit)

-- The stabiliser of a tuple by a level: it is presented by the tuples of the level and the tree of its first walks, and has its relators.
pub record IsStabiliser (t : TupleData) (l : LevelData) (s : Stab) : Type 0 where
  pub presented : IsPresented t l.root (presentation_of s)
  pub vertices : map (λ u. u.plain) s.vertices ≡ l.tuples
  pub tree : s.tree.parent ≡ l.parents
  pub relators : AreRelators (presentation_of s) (map relator_of s.relators)

-- The stabiliser, where the level has neither too many edges nor too many relators; and else which of these it has.
abbrev pub Stabilises : TupleData → LevelData → Stabilised → Type 0
Stabilises t l (Done s) = IsStabiliser t l s × HasFewEdges l most_level_edges × (relator_count l.tuples ≤ most_relators)
Stabilises t l Edges = HasMoreEdges l most_level_edges
Stabilises t l Relators = HasFewEdges l most_level_edges × (most_relators < relator_count l.tuples)
