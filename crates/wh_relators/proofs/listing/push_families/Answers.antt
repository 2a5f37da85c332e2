use Rattle.std.proofs.Common.{◌++◌, ap, ◌∙◌, arith}
use Rattle.std.proofs.lemmas.List.{take_all}
use Rattle.std.specs.List.{flat_map}
use Rattle.wh_relators.specs.Choices.{chosen_lists}
use Rattle.wh_relators.specs.Measures.{told}
use Rattle.wh_relators.proofs.ListedMore.{flat_at}
use Rattle.wh_relators.proofs.listing.push_families.Goals as goal

pub loop-family-preserved : goal.loop-family-preserved
loop-family-preserved c =
    flat_at (chosen_lists c.args.capacities.now.rank (told c.args.capacities.now)) c.args.families.now c.loop-family.family-index _
    c.args.words.now.items c.loop-family.words.items c.push_family.new.words.items (omega arith) c.loop-family.invariant c.in_ok-push_family.ensures

pub returns : goal.returns
returns c =
    c.loop-family.invariant ∙ ap (λ fs. c.args.words.now.items ++ flat_map (chosen_lists c.args.capacities.now.rank (told c.args.capacities.now)) fs) (take_all c.loop-family.family-index c.args.families.now (omega arith))
