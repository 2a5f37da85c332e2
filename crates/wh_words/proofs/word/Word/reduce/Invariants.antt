use Rattle.std.proofs.Common.{◌≡◌, ◌≤◌, take}
use Rattle.wh_words.specs.Words.{free_reduction}
use Rattle.wh_words.proofs.word.Word.reduce.Given as goal

abbrev pub invariant-loop-x : goal.invariant-loop-x
invariant-loop-x l = (l.kept.items ≡ free_reduction (take l.x-index l.letters)) × (16 ≤ l.kept.capacity)
