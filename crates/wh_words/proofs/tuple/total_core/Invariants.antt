use Rattle.std.proofs.Common.{◌≡◌, length, take, map}
use Rattle.std.specs.List.{sum_by}
use Rattle.wh_words.specs.CyclicWords.{cyclic_word}
use Rattle.wh_words.proofs.tuple.total_core.Given as goal

abbrev pub invariant-loop-word : goal.invariant-loop-word
invariant-loop-word l = l.total ≡ sum_by length (map cyclic_word (take l.word-index l.words))
