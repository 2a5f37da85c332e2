use Rattle.std.proofs.lemmas.List.Filters.{FiltersInPlace, FiltersInPlace-more_set, FiltersInPlace-more_no}
use Rattle.std.proofs.Common.{ℕ, ◌+◌, Bool, List, sym, ◌∙◌, subst, arith}
use Rattle.wh_relators.specs.Cuts.{Cut}
use Rattle.wh_relators.specs.Choices.{stays}
use Rattle.wh_relators.specs.Measures.{told}
use Rattle.wh_relators.specs.Pairs.{Is}
use Rattle.wh_relators.proofs.Retained.{read_next}
use Rattle.wh_relators.proofs.retaining.retain.Goals.{then-stays, else-stays}
use Rattle.wh_relators.proofs.retaining.retain.Goals as goal

pub stays-requires-clause-cut : goal.stays-requires-clause-cut
stays-requires-clause-cut c =
    read_next (Is c.args.capacities.now.rank) (stays (told c.args.capacities.now) c.args.back) c.args.items.now c.loop-at.items c.loop-at.kept c.loop-at.at c.args.count c.index-items-at.result
    c.loop-at.invariant c.loop-at-test.true c.requires.within c.index-items-at.is c.requires.cuts

pub loop-at-preserved : goal.loop-at-preserved
loop-at-preserved c = elim c.if-stays.branch [
  | then-stays w ↦
      subst (λ (k : ℕ). FiltersInPlace test c.args.items.now c.if-stays.items k (c.loop-at.at + 1)) (sym w.kept-is)
      (subst (λ (xs : List Cut). FiltersInPlace test c.args.items.now xs (c.loop-at.kept + 1) (c.loop-at.at + 1)) (sym w.items-is)
      (FiltersInPlace-more_set c.loop-at.invariant (omega (arith, c.loop-at-test.true, c.requires.within, c.loop-at.invariant.long)) (sym c.stays.ensures ∙ w.if-stays.true) c.index-items-at.is))
  | else-stays w ↦
      subst (λ (k : ℕ). FiltersInPlace test c.args.items.now c.if-stays.items k (c.loop-at.at + 1)) (sym w.kept-is)
      (subst (λ (xs : List Cut). FiltersInPlace test c.args.items.now xs c.loop-at.kept (c.loop-at.at + 1)) (sym w.items-is)
      (FiltersInPlace-more_no c.loop-at.invariant (omega (arith, c.loop-at-test.true, c.requires.within, c.loop-at.invariant.long)) (sym c.stays.ensures ∙ w.if-stays.false) c.index-items-at.is))
]
  where
    test : Cut → Bool
    test = stays (told c.args.capacities.now) c.args.back
