use Rattle.std.proofs.Common.{◌≡◌, ◌++◌, take}
use Rattle.std.specs.List.{flat_map}
use Rattle.wh_relators.specs.Choices.{chosen_lists}
use Rattle.wh_relators.specs.Measures.{told}
use Rattle.wh_relators.proofs.listing.push_families.Given as goal

abbrev pub invariant-loop-family : goal.invariant-loop-family
invariant-loop-family l = l.words.items ≡ l.initial.words.items ++ flat_map (chosen_lists l.capacities.rank (told l.capacities)) (take l.family-index l.families)
