use Rattle.std.proofs.Common.{◌≡◌, ◌++◌}
use Rattle.wh_lines.specs.Rows.{fields_text}
use Rattle.wh_fields.specs.Repeated.{below}
use Rattle.wh_fields.specs.FlowFields.{pair_item}
use Rattle.wh_fields.proofs.flow_printing.print_row.Given as goal

abbrev pub invariant-loop-y : goal.invariant-loop-y
invariant-loop-y l = l.out.items ≡ l.initial.out.items ++ fields_text (below (pair_item l.flow l.x) l.y)
