-- The rows of a level: tuples with their level moves, after Lyndon and Schupp, I.4.
use Rattle.std.specs.Prelude.{List, Contains, ◌↔◌}
use Rattle.std.specs.List.Sorted.{IsStrictlySortedBy}
use Rattle.wh_words.specs.Tuples.{TupleData}
use Rattle.wh_words.specs.Moves.{Move, move_cmp}
use Rattle.wh_words.specs.Levels.{IsLevelMove}
use Rattle.wh_expand.specs.declared.row.Row.{Row}

-- The list is all level moves of the tuple in the order of moves, each once.
pub record AreLevelMoves (t : TupleData) (ms : List Move) : Type 0 where
  pub sorted : IsStrictlySortedBy move_cmp ms
  pub exact : (m : Move) → Contains ms m ↔ IsLevelMove t m

-- The tuple of a row, whatever its room is.
abbrev pub row_tuple : Row → TupleData
row_tuple r = r.tuple.plain

-- The row has all level moves of its tuple.
abbrev pub IsRow : Row → Type 0
IsRow r = AreLevelMoves (row_tuple r) r.moves
