use Rattle.std.proofs.Common.{◌++◌, ap, sym, ◌∙◌, subst, arith}
use Rattle.std.proofs.lemmas.List.{take_all}
use Rattle.wh_relators.specs.Cuts.{Cut}
use Rattle.wh_relators.specs.Choices.{chosen, word_of}
use Rattle.wh_relators.specs.Measures.{told}
use Rattle.wh_relators.specs.Pairs.{IsPair}
use Rattle.wh_relators.proofs.ListedMore.{with_first, with_more}
use Rattle.wh_relators.proofs.listing.push_with.Goals as goal

pub push_chosen-requires-clause-pair : goal.push_chosen-requires-clause-pair
push_chosen-requires-clause-pair c = subst (λ (y : Cut). IsPair c.args.capacities.now.rank c.args.family c.args.x y) (sym c.y-item.is) (c.requires.pairs c.loop-y.y-index c.y-item.result (omega arith))

pub loop-y-preserved : goal.loop-y-preserved
loop-y-preserved c =
    with_more (chosen c.args.capacities.now.rank (told c.args.capacities.now) c.args.family c.args.x) (word_of c.args.capacities.now.rank c.args.family c.args.x) c.args.ys.now c.loop-y.y-index c.y-item.result
    c.args.words.now.items c.loop-y.words.items c.push_chosen.new.words.items (omega arith) c.y-item.is c.loop-y.invariant c.in_ok-push_chosen.ensures

pub returns : goal.returns
returns c =
    c.loop-y.invariant ∙ ap (λ ys. c.args.words.now.items ++ with_first (chosen c.args.capacities.now.rank (told c.args.capacities.now) c.args.family c.args.x) (word_of c.args.capacities.now.rank c.args.family c.args.x) ys) (take_all c.loop-y.y-index c.args.ys.now (omega arith))
