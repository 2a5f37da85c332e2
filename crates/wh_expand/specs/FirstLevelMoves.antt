-- The first level moves of a tuple, up to a bound.
use Rattle.std.specs.Prelude.{◌≡◌, List, Contains, ◌↔◌}
use Rattle.std.specs.List.Sorted.{IsStrictlySortedBy}
use Rattle.std.specs.declared.cmp.Ordering.TheVariants.{Less}
use Rattle.wh_words.specs.Tuples.{TupleData}
use Rattle.wh_words.specs.Moves.{Move, Kind, kind_cmp, move_cmp}
use Rattle.wh_words.specs.Levels.{IsLevelMove}

-- The list is all level moves of the tuple that come before a kind, in the order of moves, each once.
pub record AreLevelMovesBefore (t : TupleData) (bound : Kind) (ms : List Move) : Type 0 where
  pub sorted : IsStrictlySortedBy move_cmp ms
  pub exact : (m : Move) → Contains ms m ↔ (IsLevelMove t m × (kind_cmp m.kind bound ≡ Less))
