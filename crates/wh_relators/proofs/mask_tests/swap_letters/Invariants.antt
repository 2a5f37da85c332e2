use Rattle.wh_words.specs.LetterSets.{in_set}
use Rattle.wh_words.specs.Images.{swap_letter}
use Rattle.wh_relators.proofs.SetComplements.{Lacks}
use Rattle.wh_relators.proofs.mask_tests.swap_letters.Given as goal

abbrev pub invariant-loop-index : goal.invariant-loop-index
invariant-loop-index l = Lacks (λ x. in_set l.set (swap_letter l.k x)) l.index l.rest
