use Rattle.std.proofs.Common.{◌≡◌, ◌++◌, take}
use Rattle.wh_relators.specs.Families.{for_each}
use Rattle.wh_relators.specs.Choices.{chosen, word_of}
use Rattle.wh_relators.specs.Measures.{told}
use Rattle.wh_relators.proofs.listing.push_pairs.Given as goal

abbrev pub invariant-loop-x : goal.invariant-loop-x
invariant-loop-x l = l.words.items ≡ l.initial.words.items ++ for_each (take l.x-index l.xs) l.ys (chosen l.capacities.rank (told l.capacities) l.family) (word_of l.capacities.rank l.family)
