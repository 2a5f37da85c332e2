use Rattle.std.proofs.Common.{◌≡◌, ◌≤◌, ◌*◌, length, take}
use Rattle.wh_relators.specs.Families.{for_each}
use Rattle.wh_relators.specs.Choices.{chosen, word_of}
use Rattle.wh_relators.specs.Measures.{told}
use Rattle.wh_relators.proofs.counting.count_pairs.Given as goal

abbrev pub invariant-loop-x : goal.invariant-loop-x
invariant-loop-x l = record {
  count : l.count ≡ length (for_each (take l.x-index l.xs) l.ys (chosen l.capacities.rank (told l.capacities) l.family) (word_of l.capacities.rank l.family));
  most : l.count ≤ 2048 * l.x-index;
}
