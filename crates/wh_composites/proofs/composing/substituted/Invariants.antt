use Rattle.std.proofs.Common.{◌≡◌, take}
use Rattle.wh_words.specs.Action.{substitute}
use Rattle.wh_composites.proofs.composing.substituted.Given as goal

abbrev pub invariant-loop-x : goal.invariant-loop-x
invariant-loop-x l = l.letters.items ≡ substitute l.m.kind (take l.x-index l.word)
