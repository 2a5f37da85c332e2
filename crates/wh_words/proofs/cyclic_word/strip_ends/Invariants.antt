use Rattle.std.proofs.Common.{◌≡◌, length}
use Rattle.wh_words.specs.CyclicWords.{cyclic_core}
use Rattle.wh_words.proofs.cyclic_word.strip_ends.Given as goal

abbrev pub invariant-loop-rest : goal.invariant-loop-rest
invariant-loop-rest l = cyclic_core l.rest ≡ cyclic_core l.word

abbrev pub decreases-loop-rest : goal.decreases-loop-rest
decreases-loop-rest l = length l.rest
