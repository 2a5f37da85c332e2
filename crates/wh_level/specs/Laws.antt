-- What a level is, as statements that contracts name, after Lyndon and Schupp, I.4.
use Rattle.std.specs.Prelude.{◌≡◌, ℕ, ◌≤◌, List, length, ◌↔◌}
use Rattle.wh_words.specs.Tuples.{TupleData, IsTuple}
use Rattle.wh_words.specs.Moves.{Move}
use Rattle.wh_words.specs.Levels.{InLevel, IsReached, IsLevel, IsFirstWalk, HasMoreThan}
use Rattle.wh_level.specs.Trees.{LevelData, IsClosedLevel}
use Rattle.wh_level.specs.LevelEdges.{AreEdges}
use Rattle.wh_level.specs.declared.edge_list.Edge.{Edge}

-- The level of a tuple has every tuple that some list of moves that keep the length leads to from it, and nothing else.
abbrev pub LevelIsWhatIsReached : Type 0
LevelIsWhatIsReached = (root t : TupleData) → IsTuple root → InLevel root t ↔ IsReached root t

-- A root has one level.
abbrev pub LevelIsUnique : Type 0
LevelIsUnique = (root : TupleData) (ts us : List TupleData) → IsLevel root ts → IsLevel root us → ts ≡ us

-- A level with at most so many tuples hasn't more.
abbrev pub LimitIsExact : Type 0
LimitIsExact = (root : TupleData) (ts : List TupleData) (limit : ℕ) → IsLevel root ts → HasMoreThan root limit → ¬ (length ts ≤ limit)

-- There is one first walk from a root to a tuple.
abbrev pub FirstWalkIsUnique : Type 0
FirstWalkIsUnique = (root t : TupleData) (ms ns : List Move) → IsFirstWalk root t ms → IsFirstWalk root t ns → ms ≡ ns

-- A root has one level with the parents of its first walks.
abbrev pub ClosedLevelIsUnique : Type 0
ClosedLevelIsUnique = (l m : LevelData) → IsClosedLevel l → IsClosedLevel m → l.root ≡ m.root → l ≡ m

-- A level has one list of edges.
abbrev pub EdgesAreUnique : Type 0
EdgesAreUnique = (l : LevelData) (ds es : List Edge) → AreEdges l ds → AreEdges l es → ds ≡ es
