-- What is answered of the stabiliser of a tuple, after McCool 1975.
use Rattle.std.specs.Prelude.{◌≡◌, ℕ, ◌<◌, ◌≤◌, List, length, map}
use Rattle.wh_words.specs.Limits.{most_level_length, most_level_edges, most_relators}
use Rattle.wh_words.specs.Tuples.{TupleData, tuple_length}
use Rattle.wh_words.specs.Moves.{Move}
use Rattle.wh_words.specs.CapacityTraces.{IsCapacityTrace}
use Rattle.wh_words.specs.Levels.{HasMoreThan}
use Rattle.wh_level.specs.Trees.{LevelData, IsClosedLevel}
use Rattle.wh_level.specs.LevelEdges.{HasMoreEdges}
use Rattle.wh_stab.specs.Presentations.{PresentationData, IsPresented}
use Rattle.wh_stab.specs.Relators.{RelatorData, AreRelators, relator_count}
use Rattle.wh_stab.specs.Stabilisers.{HasFewEdges}
use Rattle.wh_data.specs.declared.answer.Side.{Side}
use Rattle.wh_data.specs.declared.answer.Bound.TheVariants.{Length, Level, Edges, Relators}
use Rattle.wh_data.specs.declared.answer.Loop.{Loop}
use Rattle.wh_data.specs.declared.answer.Parts.{Parts}
use Rattle.wh_data.specs.declared.answer.StabVerdict.{StabVerdict}
use Rattle.wh_data.specs.declared.answer.StabVerdict.TheVariants.{Done, Undecided}
use Rattle.wh_answer.specs.Sides.{IsSideOf}

-- The trace leads to the root of a level, which isn't too long and has at most so many tuples.
pub record HasLevel (limit : ℕ) (t : TupleData) (trace : List Move) (l : LevelData) : Type 0 where
  pub leads : IsCapacityTrace t trace l.root
  pub low : tuple_length l.root ≤ most_level_length
  pub closed : IsClosedLevel l
  pub few : length l.tuples ≤ limit

-- What a relator tells: its vertex, the moves of its way, and its word.
abbrev pub told_loop : Loop → RelatorData
told_loop r = record { at = r.at; moves = r.moves; word = r.word }

-- What a trace and parts present.
abbrev pub presentation_by : List Move → Parts → PresentationData
presentation_by trace p = record { trace = trace; vertices = map (λ u. u.plain) p.vertices; tree = p.tree; generators = p.generators }

-- The parts present the stabiliser by the trace, with the level and the tree of its first walks, and have its relators.
pub record ArePartsOf (t : TupleData) (trace : List Move) (l : LevelData) (p : Parts) : Type 0 where
  pub presented : IsPresented t l.root (presentation_by trace p)
  pub vertices : map (λ u. u.plain) p.vertices ≡ l.tuples
  pub tree : p.tree ≡ l.parents
  pub relators : AreRelators (presentation_by trace p) (map told_loop p.relators)

-- What is found of the stabiliser of a tuple: the first of these cases that holds of the end of its trace and the level of that.
pub data Presents (limit : ℕ) (t : TupleData) : StabVerdict → Type 0 where
  too_long : {trace : List Move} {u : TupleData} → IsCapacityTrace t trace u → most_level_length < tuple_length u → Presents limit t (Undecided (Length (tuple_length u)))
  too_many : {trace : List Move} {u : TupleData} → IsCapacityTrace t trace u → tuple_length u ≤ most_level_length → HasMoreThan u limit → Presents limit t (Undecided (Level limit))
  many_edges : {trace : List Move} {l : LevelData} → HasLevel limit t trace l → HasMoreEdges l most_level_edges → Presents limit t (Undecided Edges)
  many_relators : {trace : List Move} {l : LevelData} → HasLevel limit t trace l → HasFewEdges l most_level_edges → most_relators < relator_count l.tuples → Presents limit t (Undecided Relators)
  presented : {side : Side} {parts : Parts} {l : LevelData} → HasLevel limit t side.trace l → HasFewEdges l most_level_edges → relator_count l.tuples ≤ most_relators → IsSideOf t side → ArePartsOf t side.trace l parts →
      Presents limit t (Done side parts)
