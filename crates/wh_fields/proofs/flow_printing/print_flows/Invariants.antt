use Rattle.std.proofs.Common.{◌≡◌, ◌++◌, take}
use Rattle.wh_lines.specs.Rows.{rows_text}
use Rattle.wh_fields.specs.FlowFields.{flow_rows}
use Rattle.wh_fields.proofs.flow_printing.print_flows.Given as goal

abbrev pub invariant-loop-generator : goal.invariant-loop-generator
invariant-loop-generator l = l.out.items ≡ l.initial.out.items ++ rows_text (flow_rows l.rank 0 (take l.generator l.flows))
