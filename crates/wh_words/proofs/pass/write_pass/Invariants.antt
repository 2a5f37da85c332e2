use Rattle.std.proofs.Common.{◌≡◌, ◌+◌, ◌-◌, ◌++◌, length, get_or, take}
use Rattle.wh_words.specs.LetterSets.{in_set}
use Rattle.wh_words.specs.Passes.{pass, last_or}
use Rattle.wh_words.proofs.pass.write_pass.Given as goal

abbrev pub invariant-loop-x : goal.invariant-loop-x
invariant-loop-x l = record {
  written : take l.next l.out ≡ take l.fn.at l.initial.out ++ pass l.mult (in_set l.set) (get_or l.word (length l.word - 1) 0) (take l.x-index l.word);
  place : l.next ≡ l.fn.at + length (pass l.mult (in_set l.set) (get_or l.word (length l.word - 1) 0) (take l.x-index l.word));
  here : l.here ≡ in_set l.set (last_or l.mult (in_set l.set) (get_or l.word (length l.word - 1) 0) (take l.x-index l.word));
  same_length : length l.out ≡ length l.initial.out;
}
