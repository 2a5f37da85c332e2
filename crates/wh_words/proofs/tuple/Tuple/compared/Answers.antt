use Rattle.std.proofs.Common.{◌≡◌, ℕ, ◌⊎◌, inl, inr, length, ap, ◌∙◌, arith, rules}
use Rattle.std.specs.Ordering.{nat_cmp}
use Rattle.std.specs.declared.cmp.Ordering.TheVariants.{Equal}
use Rattle.wh_words.proofs.MadeOfCyclic.{tuple_tied, words_end}
use Rattle.wh_words.proofs.tuple.Tuple.compared.Goals.{then-loop-place-test+else-place-count, else-loop-place-test}
use Rattle.wh_words.proofs.tuple.Tuple.compared.Goals as goal

pub returns : goal.returns
returns c =
    let ranks : c.cmp-ranks.result ≡ nat_cmp c.args.self.now.plain.rank c.args.other.now.plain.rank = search rules in
    let tied : c.cmp-ranks.result ≡ Equal = search rules in
    let ends : (length c.args.self.now.plain.words ≡ c.loop-place.place) ⊎ (length c.args.other.now.plain.words ≡ c.loop-place.place) = elim c.loop-place-test.branch [
      | then-loop-place-test+else-place-count w ↦ inr (omega (arith, c.loop-place.invariant.within_other, w.count-in-loop-place.ensures.count))
      | else-loop-place-test w ↦ inl (omega (arith, c.loop-place.invariant.within, c.count.ensures.count))
    ] in
    tuple_tied c.args.self.now.plain c.args.other.now.plain c.cmp-ranks.result c.cmp.result ranks tied
    (c.cmp.ensures
    ∙ ap (λ (n : ℕ). nat_cmp n c.count-3.result) c.count-2.ensures.count
    ∙ ap (λ (n : ℕ). nat_cmp (length c.args.self.now.plain.words) n) c.count-3.ensures.count
    ∙ words_end c.args.self.now.plain.words c.args.other.now.plain.words c.loop-place.place c.loop-place.invariant.same c.loop-place.invariant.within c.loop-place.invariant.within_other ends)
