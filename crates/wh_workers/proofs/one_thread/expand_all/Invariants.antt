use Rattle.std.proofs.Common.{◌≡◌, ◌+◌, ◌-◌, ◌≤◌, length}
use Rattle.wh_level.specs.PlacedTuples.{KeepsRooms}
use Rattle.wh_level.specs.GrowingLevels.{GoesOn}
use Rattle.wh_workers.proofs.one_thread.expand_all.Given as goal

abbrev pub invariant-over : goal.invariant-over
invariant-over g l = record {
  on : GoesOn l.root.plain l.limit l.level l.place;
  few : l.place ≤ l.limit;
  rooms : KeepsRooms l.fn.image l.image;
  steps : l.steps ≡ l.fn.steps + l.place;
}

abbrev pub decreases-over : goal.decreases-over
decreases-over g l = l.limit - l.place
