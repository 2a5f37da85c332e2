use Rattle.wh_words.specs.LetterSets.{in_set}
use Rattle.wh_composites.specs.SignedPerms.{letter_map}
use Rattle.wh_straighten.proofs.LoweredRows.{IsMadeUpTo}
use Rattle.wh_straighten.proofs.moved_cuts.moved_set.Given as goal

abbrev pub invariant-loop-index : goal.invariant-loop-index
invariant-loop-index l = IsMadeUpTo l.index l.moved (λ x. in_set l.set (letter_map l.turn.kind x))
