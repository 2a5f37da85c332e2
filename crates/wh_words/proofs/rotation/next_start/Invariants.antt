use Rattle.std.proofs.Common.{ℕ, ◌-◌, ◌<◌, ◌≤◌, length, get_or}
use Rattle.wh_words.proofs.rotation.next_start.Given as goal

abbrev pub invariant-loop-start : goal.invariant-loop-start
invariant-loop-start l = record {
  order : l.from ≤ l.start;
  within : l.from < l.start → l.start ≤ length l.word;
  above : (t : ℕ) → l.from ≤ t → t < l.start → get_or l.word l.best 0 < get_or l.word t 0;
}

abbrev pub decreases-loop-start : goal.decreases-loop-start
decreases-loop-start l = length l.word - l.start
