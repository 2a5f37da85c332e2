use Rattle.wh_words.specs.Tuples.{tuple_length}
use Rattle.wh_reduce.proofs.Traced.{Traced, AreRoomy}
use Rattle.wh_reduce.proofs.trace.shorten_all.Given as goal

abbrev pub invariant-loop-m : goal.invariant-loop-m
invariant-loop-m l = record {
  traced : Traced l.initial.end.plain l.moves.items l.end.plain;
  roomy : AreRoomy l.initial.end.plain l.end l.spare;
}

abbrev pub decreases-loop-m : goal.decreases-loop-m
decreases-loop-m l = tuple_length l.end.plain
