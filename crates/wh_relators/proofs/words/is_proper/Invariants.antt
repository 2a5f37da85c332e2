use Rattle.std.proofs.Common.{◌≡◌, drop}
use Rattle.wh_relators.specs.Instances.{is_proper}
use Rattle.wh_relators.proofs.words.is_proper.Given as goal

abbrev pub invariant-loop-m : goal.invariant-loop-m
invariant-loop-m l = is_proper l.moves ≡ is_proper (drop l.m-index l.moves)
