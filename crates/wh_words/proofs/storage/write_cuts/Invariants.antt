use Rattle.std.proofs.Common.{◌≡◌, length}
use Rattle.wh_words.specs.Storage.{AreWritten}
use Rattle.wh_words.proofs.storage.write_cuts.Given as goal

abbrev pub invariant-loop-place : goal.invariant-loop-place
invariant-loop-place l = record {
  written : AreWritten l.mult l.set l.ends l.from l.place l.at l.marks l.out;
  same_length : length l.out ≡ length l.initial.out;
  same_places : length l.marks ≡ length l.initial.marks;
}
