use Rattle.std.proofs.Common.{◌≡◌, ◌≢◌, ℕ, arith, sym, subst, ◌∙◌, inl, inr}
use Rattle.std.specs.Int.{bit_at}
use Rattle.std.proofs.lemmas.Bool.{cases_Bool, cases_eq, true≢false}
use Rattle.wh_words.specs.LetterSets.{in_set}
use Rattle.wh_flow.specs.Searches.{residual, IsLed}
use Rattle.wh_flow.proofs.Pushes.{led_here, led_on}
use Rattle.wh_flow.proofs.Masks.{mask_leads}
use Rattle.wh_flow.proofs.Searching.{searching_starts, searching_more, searching_ends, marked_other, marked_grew, marked_fewer, grew_fewer, searched_fewer}
use Rattle.wh_flow.proofs.cut.+visit.Goals as goal

pub loop-y-init : goal.loop-y-init
loop-y-init t c =
    let same : bit_at c.with.result c.args.v ≡ 1 = subst (λ (k : ℕ). bit_at c.with.result k ≡ 1) c.of_index.ensures c.with.ensures.same in
    let others : (i : ℕ) → i ≢ c.args.v → bit_at c.with.result i ≡ bit_at c.args.seen.now i = λ i e. c.with.ensures.others i (λ k. e (k ∙ c.of_index.ensures)) in
    record {
      grew = marked_grew c.args.seen.now c.with.result c.args.v same others;
      fewer = marked_fewer c.args.seen.now c.with.result c.args.v same others c.requires.v_within c.requires.fresh;
      searching = searching_starts c.args.cap.now c.args.flow.now c.args.seen.now 0 c.args.v 52 c.with.result same others (λ e. absurd (omega (arith, e, c.requires.v_within)));
      led = λ x h n b. elim (cases_eq x c.args.v) [
        | inl e ↦ subst (λ (z : ℕ). IsLed c.args.cap.now c.args.flow.now c.args.seen.now c.args.v z) (sym e)
            (led_here c.args.cap.now c.args.flow.now c.args.seen.now c.args.v c.requires.table c.requires.within)
        | inr e ↦ absurd (true≢false (sym b ∙ marked_other c.args.seen.now c.with.result c.args.v same others x e ∙ n))
      ];
      past = λ x l. marked_other c.args.seen.now c.with.result c.args.v same others x (λ e. absurd (omega (arith, e, l, c.requires.v_within)));
    }

pub loop-y-smaller : goal.loop-y-smaller
loop-y-smaller t c = searched_fewer c.loop-y.seen c.visit.new.seen c.in-Some.y
    (mask_leads c.successors_of-successors.result (residual c.args.cap.now c.args.flow.now 0 c.args.v) c.in-Some.y c.successors_of-successors.ensures c.in-Some.ensures.0 c.in-Some.ensures.1.0).0 c.in-Some.ensures.1.1 c.visit.ensures.searched.start c.visit.ensures.grew

pub loop-y-preserved : goal.loop-y-preserved
loop-y-preserved t c =
    let there = mask_leads c.successors_of-successors.result (residual c.args.cap.now c.args.flow.now 0 c.args.v) c.in-Some.y c.successors_of-successors.ensures c.in-Some.ensures.0 c.in-Some.ensures.1.0 in
    record {
      grew = λ z b. c.visit.ensures.grew z (c.loop-y.invariant.grew z b);
      fewer = omega (arith, grew_fewer c.loop-y.seen c.visit.new.seen c.visit.ensures.grew, c.loop-y.invariant.fewer);
      searching = searching_more c.args.cap.now c.args.flow.now c.args.seen.now 0 c.args.v 52 c.loop-y.seen c.visit.new.seen c.in-Some.y c.requires.v_within there.0 c.loop-y.invariant.searching there.1 c.visit.ensures.grew c.visit.ensures.searched;
      led = λ x h n b. elim (cases_Bool (in_set c.loop-y.seen x)) [
        | inl k ↦ c.loop-y.invariant.led x h n k
        | inr k ↦ led_on c.args.cap.now c.args.flow.now c.args.seen.now c.loop-y.seen c.args.v c.in-Some.y x c.requires.v_within there.0 c.requires.fresh c.loop-y.invariant.searching.start c.in-Some.ensures.1.1 c.loop-y.invariant.grew there.1
            (c.visit.ensures.led x h k b)
      ];
      past = λ x l. c.visit.ensures.past x l ∙ c.loop-y.invariant.past x l;
    }

pub returns-clause-searched : goal.returns-clause-searched
returns-clause-searched t c = searching_ends c.args.cap.now c.args.flow.now c.args.seen.now 0 c.args.v 52 c.loop-y.seen c.successors_of-successors.result c.successors_of-successors.ensures c.in_default.ensures c.loop-y.invariant.searching
