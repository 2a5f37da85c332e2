use Rattle.std.proofs.Common.{length, [], sym, ap, ◌∙◌, subst, arith}
use Rattle.std.proofs.lemmas.List.{take_all}
use Rattle.std.specs.List.{All}
use Rattle.wh_relators.specs.Cuts.{Cut}
use Rattle.wh_relators.specs.Families.{for_each}
use Rattle.wh_relators.specs.Choices.{chosen, word_of}
use Rattle.wh_relators.specs.Measures.{told}
use Rattle.wh_relators.specs.Pairs.{IsPair}
use Rattle.wh_relators.proofs.ListedMore.{pairs_none, pairs_counted}
use Rattle.wh_relators.proofs.counting.count_pairs.Goals as goal

pub loop-x-init : goal.loop-x-init
loop-x-init c = record {
  count = ap length (pairs_none (chosen c.args.capacities.now.rank (told c.args.capacities.now) c.args.family) (word_of c.args.capacities.now.rank c.args.family) c.args.ys.now []);
  most = omega arith;
}

pub count_with-count-requires-clause-pairs : goal.count_with-count-requires-clause-pairs
count_with-count-requires-clause-pairs c = subst (λ (x : Cut). All (IsPair c.args.capacities.now.rank c.args.family x) c.args.ys.now) (sym c.x-item.is) (c.requires.pairs c.loop-x.x-index c.x-item.result (omega arith))

pub loop-x-preserved : goal.loop-x-preserved
loop-x-preserved c = record {
  count = pairs_counted (chosen c.args.capacities.now.rank (told c.args.capacities.now) c.args.family) (word_of c.args.capacities.now.rank c.args.family) c.args.xs.now c.args.ys.now c.loop-x.x-index c.x-item.result
      c.loop-x.count c.count_with-count.result (omega arith) c.x-item.is c.loop-x.invariant.count c.count_with-count.ensures.count;
  most = omega (arith, c.loop-x.invariant.most, c.count_with-count.ensures.most);
}

pub returns : goal.returns
returns c = record {
  count = c.loop-x.invariant.count ∙ ap (λ xs. length (for_each xs c.args.ys.now (chosen c.args.capacities.now.rank (told c.args.capacities.now) c.args.family) (word_of c.args.capacities.now.rank c.args.family))) (take_all c.loop-x.x-index c.args.xs.now (omega arith));
  most = omega (arith, c.loop-x.invariant.most, c.requires.first);
}
