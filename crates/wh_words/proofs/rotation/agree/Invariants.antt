use Rattle.std.proofs.Common.{◌-◌, ◌≤◌, length}
use Rattle.wh_words.specs.Rounds.{Agree}
use Rattle.wh_words.proofs.rotation.agree.Given as goal

abbrev pub invariant-loop-same : goal.invariant-loop-same
invariant-loop-same l = record {
  within : l.same ≤ length l.word;
  agree : Agree l.word l.best l.other l.same;
}

abbrev pub decreases-loop-same : goal.decreases-loop-same
decreases-loop-same l = length l.word - l.same
