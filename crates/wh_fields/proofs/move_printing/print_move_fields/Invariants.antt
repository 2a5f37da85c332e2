use Rattle.std.proofs.Common.{◌≡◌, ◌∷◌, ◌++◌, take}
use Rattle.std.specs.List.{flat_map}
use Rattle.wh_fields.specs.MoveFields.{kind_text}
use Rattle.wh_fields.proofs.move_printing.print_move_fields.Given as goal

abbrev pub invariant-loop-m : goal.invariant-loop-m
invariant-loop-m l = l.out.items ≡ l.initial.out.items ++ flat_map (λ m. 32 ∷ kind_text m.kind) (take l.m-index l.moves)
