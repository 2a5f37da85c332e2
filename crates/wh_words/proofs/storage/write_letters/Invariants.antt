use Rattle.std.proofs.Common.{◌≡◌, ◌+◌, ◌++◌, length, take}
use Rattle.wh_words.proofs.storage.write_letters.Given as goal

abbrev pub invariant-loop-x : goal.invariant-loop-x
invariant-loop-x l = record {
  written : take l.next l.out ≡ take l.fn.at l.initial.out ++ take l.x-index l.word;
  place : l.next ≡ l.fn.at + l.x-index;
  same_length : length l.out ≡ length l.initial.out;
}
