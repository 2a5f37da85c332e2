use Rattle.std.proofs.Common.{◌≡◌, take}
use Rattle.wh_sets.proofs.SetLists.{plains}
use Rattle.wh_sets.proofs.tuple_set.TupleSet.copies.Given as goal

abbrev pub invariant-loop-place : goal.invariant-loop-place
invariant-loop-place l = plains l.copies.items ≡ take l.place l.self
