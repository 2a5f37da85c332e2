use Rattle.std.proofs.Common.{◌≡◌, ◌≤◌, length, take}
use Rattle.std.specs.List.{filter}
use Rattle.wh_relators.specs.Choices.{chosen}
use Rattle.wh_relators.specs.Measures.{told}
use Rattle.wh_relators.proofs.counting.count_with.Given as goal

abbrev pub invariant-loop-y : goal.invariant-loop-y
invariant-loop-y l = record {
  count : l.count ≡ length (filter (chosen l.capacities.rank (told l.capacities) l.family l.x) (take l.y-index l.ys));
  most : l.count ≤ l.y-index;
}
