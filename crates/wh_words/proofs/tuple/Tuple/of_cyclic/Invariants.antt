use Rattle.std.proofs.Common.{◌≡◌}
use Rattle.wh_words.proofs.MadeOfCyclic.{written}
use Rattle.wh_words.proofs.tuple.Tuple.of_cyclic.Given as goal

abbrev pub invariant-loop-word : goal.invariant-loop-word
invariant-loop-word l = l.made ≡ written l.fn.rank l.words l.word-index
