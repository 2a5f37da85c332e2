use Rattle.std.proofs.Common.{map, take}
use Rattle.wh_level.specs.PlacedTuples.{ArePlaces}
use Rattle.wh_level.proofs.renumbering.other_places.Given as goal

abbrev pub invariant-loop-tuple : goal.invariant-loop-tuple
invariant-loop-tuple l = ArePlaces (map (λ t. t.plain) (take l.tuple-index l.tuples)) l.places l.others.items
