use Rattle.std.proofs.Common.{◌++◌, ap, ◌∙◌}
use Rattle.std.specs.List.{flat_map}
use Rattle.wh_relators.specs.Choices.{chosen_lists}
use Rattle.wh_relators.specs.Measures.{told}
use Rattle.wh_relators.proofs.PairCuts.{families_listed, all_families}
use Rattle.wh_relators.proofs.listing.instances.Goals as goal

pub returns : goal.returns
returns c =
    c.in_ok-push_families.ensures
    ∙ (ap (λ ws. ws ++ flat_map (chosen_lists c.of-capacities.result.rank (told c.of-capacities.result)) all_families) c.new-words.ensures.items
    ∙ families_listed c.args.tuple.now.plain c.of-capacities.result c.of-capacities.ensures)
