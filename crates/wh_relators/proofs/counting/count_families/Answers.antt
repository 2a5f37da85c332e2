use Rattle.std.proofs.Common.{length, ap, ◌∙◌, arith}
use Rattle.std.proofs.lemmas.List.{take_all}
use Rattle.std.specs.List.{flat_map}
use Rattle.wh_relators.specs.Choices.{chosen_lists}
use Rattle.wh_relators.specs.Measures.{told}
use Rattle.wh_relators.proofs.ListedMore.{flat_counted}
use Rattle.wh_relators.proofs.counting.count_families.Goals as goal

pub loop-family-preserved : goal.loop-family-preserved
loop-family-preserved c = record {
  count = flat_counted (chosen_lists c.args.capacities.now.rank (told c.args.capacities.now)) c.args.families.now c.loop-family.family-index _
      c.loop-family.count c.count_family-count.result (omega arith) c.loop-family.invariant.count c.count_family-count.ensures.count;
  most = omega (arith, c.loop-family.invariant.most, c.count_family-count.ensures.most);
}

pub returns : goal.returns
returns c = c.loop-family.invariant.count ∙ ap (λ fs. length (flat_map (chosen_lists c.args.capacities.now.rank (told c.args.capacities.now)) fs)) (take_all c.loop-family.family-index c.args.families.now (omega arith))
