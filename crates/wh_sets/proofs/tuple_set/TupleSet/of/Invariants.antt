use Rattle.std.proofs.Common.{[], take}
use Rattle.wh_sets.specs.TupleSets.{AreAdded}
use Rattle.wh_sets.proofs.SetLists.{plains}
use Rattle.wh_sets.proofs.tuple_set.TupleSet.of.Given as goal

abbrev pub invariant-loop-tuple : goal.invariant-loop-tuple
invariant-loop-tuple l = AreAdded [] (plains (take l.tuple-index l.tuples)) l.set
