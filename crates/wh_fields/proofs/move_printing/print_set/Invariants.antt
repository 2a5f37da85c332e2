use Rattle.std.proofs.Common.{◌≡◌, ◌++◌}
use Rattle.wh_fields.specs.MoveFields.{set_item}
use Rattle.wh_fields.specs.Repeated.{below}
use Rattle.wh_fields.proofs.move_printing.print_set.Given as goal

abbrev pub invariant-loop-index : goal.invariant-loop-index
invariant-loop-index l = l.out.items ≡ l.initial.out.items ++ below (set_item l.set) l.index
