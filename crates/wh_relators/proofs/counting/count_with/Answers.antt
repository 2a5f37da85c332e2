use Rattle.std.proofs.Common.{true, false, length, sym, ap, ◌∙◌, subst, arith}
use Rattle.std.proofs.lemmas.List.{take_all}
use Rattle.std.specs.List.{filter}
use Rattle.wh_relators.specs.Cuts.{Cut}
use Rattle.wh_relators.specs.Choices.{chosen}
use Rattle.wh_relators.specs.Measures.{told}
use Rattle.wh_relators.specs.Pairs.{IsPair}
use Rattle.wh_relators.proofs.ListedMore.{counted}
use Rattle.wh_relators.proofs.counting.count_with.Goals.{then-is_chosen, else-is_chosen}
use Rattle.wh_relators.proofs.counting.count_with.Goals as goal

pub is_chosen-requires-clause-pair : goal.is_chosen-requires-clause-pair
is_chosen-requires-clause-pair c = subst (λ (y : Cut). IsPair c.args.capacities.now.rank c.args.family c.args.x y) (sym c.y-item.is) (c.requires.pairs c.loop-y.y-index c.y-item.result (omega arith))

pub loop-y-preserved : goal.loop-y-preserved
loop-y-preserved c = elim c.if-is_chosen.branch [
  | then-is_chosen w ↦ record {
    count = counted (chosen c.args.capacities.now.rank (told c.args.capacities.now) c.args.family c.args.x) c.args.ys.now c.loop-y.y-index c.y-item.result true c.loop-y.count c.if-is_chosen.count (omega arith) c.y-item.is (sym w.if-is_chosen.true ∙ c.is_chosen.ensures) c.loop-y.invariant.count w.count-is;
    most = omega (arith, w.count-is, c.loop-y.invariant.most);
  }
  | else-is_chosen w ↦ record {
    count = counted (chosen c.args.capacities.now.rank (told c.args.capacities.now) c.args.family c.args.x) c.args.ys.now c.loop-y.y-index c.y-item.result false c.loop-y.count c.if-is_chosen.count (omega arith) c.y-item.is (sym w.if-is_chosen.false ∙ c.is_chosen.ensures) c.loop-y.invariant.count (omega (arith, w.count-is));
    most = omega (arith, w.count-is, c.loop-y.invariant.most);
  }
]

pub returns : goal.returns
returns c = record {
  count = c.loop-y.invariant.count ∙ ap (λ ys. length (filter (chosen c.args.capacities.now.rank (told c.args.capacities.now) c.args.family c.args.x) ys)) (take_all c.loop-y.y-index c.args.ys.now (omega arith));
  most = omega (arith, c.loop-y.invariant.most, c.requires.few);
}
