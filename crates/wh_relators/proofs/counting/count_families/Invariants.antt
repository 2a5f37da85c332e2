use Rattle.std.proofs.Common.{◌≡◌, ◌≤◌, ◌*◌, length, take}
use Rattle.std.specs.List.{flat_map}
use Rattle.wh_relators.specs.Choices.{chosen_lists}
use Rattle.wh_relators.specs.Measures.{told}
use Rattle.wh_relators.proofs.counting.count_families.Given as goal

abbrev pub invariant-loop-family : goal.invariant-loop-family
invariant-loop-family l = record {
  count : l.count ≡ length (flat_map (chosen_lists l.capacities.rank (told l.capacities)) (take l.family-index l.families));
  most : l.count ≤ 4194304 * l.family-index;
}
