use Rattle.std.proofs.Common.{◌≡◌, ◌+◌, ◌++◌, length, map, take}
use Rattle.wh_words.specs.Images.{swap_letter}
use Rattle.wh_words.proofs.storage.write_swapped.Given as goal

abbrev pub invariant-loop-x : goal.invariant-loop-x
invariant-loop-x l = record {
  written : take l.next l.out ≡ take l.fn.at l.initial.out ++ map (swap_letter l.k) (take l.x-index l.word);
  place : l.next ≡ l.fn.at + l.x-index;
  same_length : length l.out ≡ length l.initial.out;
}
