use Rattle.std.proofs.Common.{take}
use Rattle.wh_expand.specs.Rows.{row_tuple}
use Rattle.wh_level.specs.PlacedTuples.{KeepsRooms}
use Rattle.wh_level.proofs.Absent.{FoundBy}
use Rattle.wh_level.proofs.missing.add_absent.Given as goal

abbrev pub invariant-loop-m : goal.invariant-loop-m
invariant-loop-m l = record {
  rooms : KeepsRooms l.fn.image l.image;
  found : FoundBy l.places (row_tuple l.row) (take l.m-index l.row.moves) l.fn.found l.found;
}
