use Rattle.std.proofs.Common.{◌≡◌, ◌++◌, take}
use Rattle.wh_relators.specs.Choices.{chosen, word_of}
use Rattle.wh_relators.specs.Measures.{told}
use Rattle.wh_relators.proofs.ListedMore.{with_first}
use Rattle.wh_relators.proofs.listing.push_with.Given as goal

abbrev pub invariant-loop-y : goal.invariant-loop-y
invariant-loop-y l = l.words.items ≡ l.initial.words.items ++ with_first (chosen l.capacities.rank (told l.capacities) l.family l.x) (word_of l.capacities.rank l.family l.x) (take l.y-index l.ys)
