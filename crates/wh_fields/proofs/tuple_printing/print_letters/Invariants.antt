use Rattle.std.proofs.Common.{◌≡◌, ◌++◌, map, take}
use Rattle.wh_fields.specs.Words.{letter_text}
use Rattle.wh_fields.proofs.tuple_printing.print_letters.Given as goal

abbrev pub invariant-loop-x : goal.invariant-loop-x
invariant-loop-x l = l.out.items ≡ l.initial.out.items ++ map letter_text (take l.x-index l.word)
