use Rattle.std.proofs.Common.{◌≡◌}
use Rattle.wh_words.proofs.MadeOfReduced.{written_of}
use Rattle.wh_words.proofs.tuple.Tuple.of.Given as goal

abbrev pub invariant-loop-word : goal.invariant-loop-word
invariant-loop-word l = l.made ≡ written_of l.fn.rank l.words l.word-index
