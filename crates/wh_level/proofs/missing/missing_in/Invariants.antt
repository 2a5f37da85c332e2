use Rattle.std.proofs.Common.{take}
use Rattle.wh_level.specs.PlacedTuples.{KeepsRooms}
use Rattle.wh_level.proofs.Absent.{FoundOf}
use Rattle.wh_level.proofs.missing.missing_in.Given as goal

abbrev pub invariant-loop-row : goal.invariant-loop-row
invariant-loop-row l = record {
  rooms : KeepsRooms l.fn.image l.image;
  found : FoundOf l.root.plain l.places (take l.row-index l.rows) l.found;
}
