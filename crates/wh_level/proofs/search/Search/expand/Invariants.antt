use Rattle.wh_expand.specs.Rows.{row_tuple}
use Rattle.wh_level.specs.PlacedTuples.{KeepsRooms}
use Rattle.wh_level.proofs.Expanding.{IsGoingOver}
use Rattle.wh_level.proofs.search.Search.expand.Given as goal

abbrev pub invariant-loop-m : goal.invariant-loop-m
invariant-loop-m l = record {
  rooms : KeepsRooms l.fn.image l.image;
  over : IsGoingOver l.places l.from (row_tuple l.row) l.row.moves l.fn.self l.self l.m-index;
}
