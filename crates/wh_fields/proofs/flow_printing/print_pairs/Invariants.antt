use Rattle.std.proofs.Common.{◌≡◌, ◌*◌, ◌++◌}
use Rattle.wh_lines.specs.Rows.{fields_text}
use Rattle.wh_fields.specs.Repeated.{below}
use Rattle.wh_fields.specs.FlowFields.{pair_item}
use Rattle.wh_fields.proofs.flow_printing.print_pairs.Given as goal

abbrev pub invariant-loop-x : goal.invariant-loop-x
invariant-loop-x l = l.out.items ≡ l.initial.out.items ++ fields_text (below (λ x. below (pair_item l.flow x) (2 * l.rank)) l.x)
