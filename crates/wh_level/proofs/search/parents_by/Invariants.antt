use Rattle.std.proofs.Common.{◌-◌, length}
use Rattle.wh_level.specs.PlacedTuples.{KeepsRooms}
use Rattle.wh_level.specs.Searches.{IsSearched}
use Rattle.wh_level.proofs.search.parents_by.Given as goal

abbrev pub invariant-loop-from : goal.invariant-loop-from
invariant-loop-from l = record {
  rooms : KeepsRooms l.fn.image l.image;
  searched : IsSearched l.root.plain l.places l.search l.at;
}

abbrev pub decreases-loop-from : goal.decreases-loop-from
decreases-loop-from l = length l.places - l.at
