use Rattle.wh_words.specs.Tuples.{TupleData}
use Rattle.wh_expand.specs.Rows.{row_tuple}
use Rattle.wh_level.specs.PlacedTuples.{KeepsRooms}
use Rattle.wh_level.specs.GrowingLevels.{HasGoneOver}
use Rattle.wh_level.proofs.Growth.{IsGrowing}
use Rattle.wh_level.proofs.growing_level.GrowingLevel.go_over.Given as goal

abbrev pub invariant-loop-m : goal.invariant-loop-m
invariant-loop-m l = record {
  rooms : KeepsRooms l.fn.image l.image;
  growing : (root : TupleData) → HasGoneOver root l.fn.self l.place → IsGrowing root l.self l.place (row_tuple l.row) l.row.moves l.m-index;
}
