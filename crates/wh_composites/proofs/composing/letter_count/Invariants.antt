use Rattle.std.proofs.Common.{◌≡◌, take}
use Rattle.wh_composites.specs.Composing.{letter_count}
use Rattle.wh_composites.proofs.composing.letter_count.Given as goal

abbrev pub invariant-loop-word : goal.invariant-loop-word
invariant-loop-word l = l.total ≡ letter_count (take l.word-index l.words)
