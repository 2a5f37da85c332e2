use Rattle.wh_stab.proofs.WayNumbers.{IsNumberedSoFar}
use Rattle.wh_stab.proofs.way_numbers.push_numbers.Given as goal

abbrev pub invariant-loop-m : goal.invariant-loop-m
invariant-loop-m l = IsNumberedSoFar l.level l.generators l.start l.moves l.m-index l.here l.word.items
