use Rattle.std.proofs.Common.{◌≡◌, map, take}
use Rattle.wh_stab.proofs.stabilising.copies.Given as goal

abbrev pub invariant-loop-tuple : goal.invariant-loop-tuple
invariant-loop-tuple l = map (λ t. t.plain) l.copies.items ≡ map (λ t. t.plain) (take l.tuple-index l.tuples)
