-- Levels: the tuples that moves reach without a change of length, after Lyndon and Schupp, I.4.
use Rattle.std.specs.Prelude.{◌≡◌, ℕ, ◌<◌, ◌≤◌, false, List, [], ◌∷◌, length, Contains, ◌↔◌}
use Rattle.std.specs.List.{All, IsDistinct}
use Rattle.std.specs.List.Sorted.{IsStrictlySortedBy}
use Rattle.std.specs.Ordering.{is_gt, eq_by_cmp}
use Rattle.std.specs.Cmp.Lexicographic.{slice_cmp}
use Rattle.wh_words.specs.Tuples.{TupleData, tuple_length, tuple_cmp}
use Rattle.wh_words.specs.Moves.{Move, IsMove, IsIdentityCut, move_cmp}
use Rattle.wh_words.specs.Action.{act, act_all}

-- A level move of a tuple: a move of its rank that keeps its length and is no identity cut.
pub record IsLevelMove (t : TupleData) (m : Move) : Type 0 where
  pub valid : IsMove m
  pub rank : m.rank ≡ t.rank
  pub kept : tuple_length (act t m) ≡ tuple_length t
  pub moves : ¬ (IsIdentityCut m.kind)

-- A list of moves leads from a tuple to another, each a level move of the tuple that it acts on.
pub data Reaches : TupleData → List Move → TupleData → Type 0 where
  here : {t : TupleData} → Reaches t [] t
  step : {t : TupleData} {m : Move} {ms : List Move} {u : TupleData} → IsLevelMove t m → Reaches (act t m) ms u → Reaches t (m ∷ ms) u

-- The level of a root: all tuples that some list of level moves leads to.
abbrev pub InLevel : TupleData → TupleData → Type 0
InLevel root t = (ms : List Move) × Reaches root ms t

-- Each move of the list is one of the rank and keeps the length of the tuple that it acts on. Identity cuts may be among them.
pub data KeepsLength : TupleData → List Move → Type 0 where
  done : {t : TupleData} → KeepsLength t []
  step : {t : TupleData} {m : Move} {ms : List Move} → IsMove m → m.rank ≡ t.rank → tuple_length (act t m) ≡ tuple_length t → KeepsLength (act t m) ms → KeepsLength t (m ∷ ms)

-- Some list of moves that keep the length leads from one tuple to the other.
pub record IsReached (root t : TupleData) : Type 0 where
  pub moves : List Move
  pub keeps : KeepsLength root moves
  pub leads : act_all root moves ≡ t

-- The list is the level of the root in the order of tuples, each of its tuples once.
pub record IsLevel (root : TupleData) (ts : List TupleData) : Type 0 where
  pub sorted : IsStrictlySortedBy tuple_cmp ts
  pub exact : (t : TupleData) → Contains ts t ↔ InLevel root t

-- The level of the root has more than this many tuples: so many different ones are known.
pub record HasMoreThan (root : TupleData) (limit : ℕ) : Type 0 where
  pub tuples : List TupleData
  pub distinct : IsDistinct (eq_by_cmp tuple_cmp) tuples
  pub within : All (InLevel root) tuples
  pub more : limit < length tuples

-- The first walk from a root to a tuple: of the shortest lists of level moves that lead there the first, compared move by move.
pub record IsFirstWalk (root t : TupleData) (ms : List Move) : Type 0 where
  pub leads : Reaches root ms t
  pub shortest : (ns : List Move) → Reaches root ns t → length ms ≤ length ns
  pub first : (ns : List Move) → Reaches root ns t → length ns ≡ length ms → is_gt (slice_cmp move_cmp ms ns) ≡ false
