use Rattle.std.proofs.Common.{◌≡◌, ◌∷◌, ◌++◌, take}
use Rattle.std.specs.List.{flat_map}
use Rattle.wh_fields.specs.Words.{word_text}
use Rattle.wh_fields.proofs.tuple_printing.print_word_fields.Given as goal

abbrev pub invariant-loop-place : goal.invariant-loop-place
invariant-loop-place l = l.out.items ≡ l.initial.out.items ++ flat_map (λ w. 32 ∷ word_text w) (take l.place l.tuple.plain.words)
