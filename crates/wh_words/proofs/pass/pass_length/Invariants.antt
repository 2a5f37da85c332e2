use Rattle.std.proofs.Common.{◌≡◌, ◌*◌, ◌≤◌, ◌-◌, length, get_or, take}
use Rattle.wh_words.specs.LetterSets.{in_set}
use Rattle.wh_words.specs.Passes.{pass, last_or}
use Rattle.wh_words.proofs.pass.pass_length.Given as goal

abbrev pub invariant-loop-x : goal.invariant-loop-x
invariant-loop-x l = record {
  total : l.total ≡ length (pass l.mult (in_set l.set) (get_or l.word (length l.word - 1) 0) (take l.x-index l.word));
  inside : l.inside ≡ in_set l.set (last_or l.mult (in_set l.set) (get_or l.word (length l.word - 1) 0) (take l.x-index l.word));
  few : l.total ≤ 2 * l.x-index;
}
