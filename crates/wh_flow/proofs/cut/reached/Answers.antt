use Rattle.std.proofs.Common.{◌≡◌, ◌<◌, ◌∙◌, ℕ, arith, ap, subst, true, false}
use Rattle.wh_words.specs.LetterSets.{in_set}
use Rattle.wh_flow.specs.Searches.{IsSearched, IsLed}
use Rattle.wh_flow.proofs.Reached.{reached_cut, searched_reach, reached_letters, none_seen}
use Rattle.wh_flow.proofs.cut.reached.Goals as goal

pub returns-clause-reach : goal.returns-clause-reach
returns-clause-reach c = searched_reach c.args.cap.now c.args.flow.now c.visit.new.seen c.args.v 52
    (subst (λ (m : ℕ). IsSearched c.args.cap.now c.args.flow.now m c.visit.new.seen 0 c.args.v 52) c.empty-seen.ensures c.visit.ensures.searched)

pub returns-clause-cut : goal.returns-clause-cut
returns-clause-cut c t ht ne fl gr = reached_cut c.args.cap.now c.args.flow.now c.visit.new.seen c.args.v t (omega (arith, c.requires.v_within, c.requires.letters)) ht ne fl gr
    (subst (λ (m : ℕ). IsSearched c.args.cap.now c.args.flow.now m c.visit.new.seen 0 c.args.v 52) c.empty-seen.ensures c.visit.ensures.searched)
    (subst (λ (m : ℕ). (x : ℕ) → x < 52 → in_set m x ≡ false → in_set c.visit.new.seen x ≡ true → IsLed c.args.cap.now c.args.flow.now m c.args.v x) c.empty-seen.ensures c.visit.ensures.led)

pub returns-clause-of_letters : goal.returns-clause-of_letters
returns-clause-of_letters c = reached_letters c.args.letters c.args.cap.now c.args.flow.now c.visit.new.seen c.args.v c.requires.letters c.requires.v_within c.requires.of_letters c.requires.within
    (subst (λ (m : ℕ). IsSearched c.args.cap.now c.args.flow.now m c.visit.new.seen 0 c.args.v 52) c.empty-seen.ensures c.visit.ensures.searched)
    (λ x l. c.visit.ensures.past x l ∙ ap (λ m. in_set m x) c.empty-seen.ensures ∙ none_seen x)
