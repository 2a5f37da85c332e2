use Rattle.std.proofs.Common.{◌≡◌, ℕ, ◌*◌, ◌∙◌, sym, ap, subst, arith}
use Rattle.std.specs.Int.{bit_at}
use Rattle.wh_words.specs.LetterSets.{in_set}
use Rattle.wh_words.specs.Images.{swap_letter}
use Rattle.wh_relators.proofs.SetComplements.{Lacks, lacks_all, lacks_with, lacks_without}
use Rattle.wh_relators.proofs.mask_tests.swap_letters.Goals.{then-not-contains, else-not-contains}
use Rattle.wh_relators.proofs.mask_tests.swap_letters.Goals as goal

pub loop-index-preserved : goal.loop-index-preserved
loop-index-preserved c =
    let test : in_set c.args.set (swap_letter c.args.k c.loop-index.index) ≡ c.contains.result = sym (c.contains.ensures.value ∙ ap (in_set c.args.set) (c.swapped.ensures ∙ ap (swap_letter c.args.k) c.of_index-letter.ensures)) in
    elim c.if-not-contains.branch [
      | then-not-contains w ↦ rw w.rest-is (lacks_with (λ x. in_set c.args.set (swap_letter c.args.k x)) c.loop-index.index c.loop-index.rest w.with-rest.result c.loop-index.invariant (test ∙ w.if-not-contains.true)
          (subst (λ (b : ℕ). bit_at w.with-rest.result b ≡ 1) c.of_index-letter.ensures w.with-rest.ensures.same)
          (λ j n. w.with-rest.ensures.others j (λ e. n (e ∙ c.of_index-letter.ensures))))
      | else-not-contains w ↦ rw w.rest-is (lacks_without (λ x. in_set c.args.set (swap_letter c.args.k x)) c.loop-index.index c.loop-index.rest c.loop-index.invariant (test ∙ w.if-not-contains.false))
    ]

pub returns : goal.returns
returns c =
    let end : c.loop-index.index ≡ 2 * c.args.rank = omega (arith, c.loop-index-test.false, c.get-index-end.ensures.same) in
    c.others.ensures
    ∙ lacks_all c.args.rank (λ x. in_set c.args.set (swap_letter c.args.k x)) c.loop-index.rest
    (subst (λ (i : ℕ). Lacks (λ x. in_set c.args.set (swap_letter c.args.k x)) i c.loop-index.rest) end c.loop-index.invariant)
