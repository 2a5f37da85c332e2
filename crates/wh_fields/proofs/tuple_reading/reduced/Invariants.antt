use Rattle.std.proofs.Common.{◌≡◌, map, take}
use Rattle.wh_words.specs.Words.{free_reduction}
use Rattle.wh_fields.proofs.tuple_reading.reduced.Given as goal

abbrev pub invariant-loop-word : goal.invariant-loop-word
invariant-loop-word l = l.out.items ≡ map free_reduction (take l.word-index l.words)
