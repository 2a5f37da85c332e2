use Rattle.std.proofs.Common.{◌++◌, ap, sym, ◌∙◌, subst, arith}
use Rattle.std.proofs.lemmas.List.{take_all}
use Rattle.std.specs.List.{All}
use Rattle.wh_relators.specs.Cuts.{Cut}
use Rattle.wh_relators.specs.Families.{for_each}
use Rattle.wh_relators.specs.Choices.{chosen, word_of}
use Rattle.wh_relators.specs.Measures.{told}
use Rattle.wh_relators.specs.Pairs.{IsPair}
use Rattle.wh_relators.proofs.ListedMore.{pairs_none, pairs_more}
use Rattle.wh_relators.proofs.listing.push_pairs.Goals as goal

pub push_with-requires-clause-pairs : goal.push_with-requires-clause-pairs
push_with-requires-clause-pairs c = subst (λ (x : Cut). All (IsPair c.args.capacities.now.rank c.args.family x) c.args.ys.now) (sym c.x-item.is) (c.requires.pairs c.loop-x.x-index c.x-item.result (omega arith))

pub loop-x-init : goal.loop-x-init
loop-x-init c = pairs_none (chosen c.args.capacities.now.rank (told c.args.capacities.now) c.args.family) (word_of c.args.capacities.now.rank c.args.family) c.args.ys.now c.args.words.now.items

pub loop-x-preserved : goal.loop-x-preserved
loop-x-preserved c =
    pairs_more (chosen c.args.capacities.now.rank (told c.args.capacities.now) c.args.family) (word_of c.args.capacities.now.rank c.args.family) c.args.xs.now c.args.ys.now c.loop-x.x-index c.x-item.result
    c.args.words.now.items c.loop-x.words.items c.push_with.new.words.items (omega arith) c.x-item.is c.loop-x.invariant c.in_ok-push_with.ensures

pub returns : goal.returns
returns c =
    c.loop-x.invariant ∙ ap (λ xs. c.args.words.now.items ++ for_each xs c.args.ys.now (chosen c.args.capacities.now.rank (told c.args.capacities.now) c.args.family) (word_of c.args.capacities.now.rank c.args.family)) (take_all c.loop-x.x-index c.args.xs.now (omega arith))
