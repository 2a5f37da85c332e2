use Rattle.std.proofs.Common.{◌≡◌, ◌<◌, ◌≤◌, ℕ, true, false}
use Rattle.wh_words.specs.LetterSets.{in_set}
use Rattle.wh_flow.specs.Searches.{unseen, Grew, IsSearching, IsLed}
use Rattle.wh_flow.proofs.cut.+visit.Given as goal

abbrev pub decreases-visit : goal.decreases-visit
decreases-visit l = unseen l.seen.now

abbrev pub invariant-loop-y : goal.invariant-loop-y
invariant-loop-y l = record {
  grew : Grew l.fn.seen l.seen;
  fewer : unseen l.seen < unseen l.fn.seen;
  searching : IsSearching l.cap l.flow l.fn.seen l.seen 0 l.v 52;
  led : (x : ℕ) → x < 52 → in_set l.fn.seen x ≡ false → in_set l.seen x ≡ true → IsLed l.cap l.flow l.fn.seen l.v x;
  past : (x : ℕ) → 52 ≤ x → in_set l.seen x ≡ in_set l.fn.seen x;
}

abbrev pub decreases-loop-y : goal.decreases-loop-y
decreases-loop-y l = unseen l.seen
