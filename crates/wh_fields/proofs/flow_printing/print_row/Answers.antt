use Rattle.std.proofs.Common.{ap}
use Rattle.wh_lines.specs.Rows.{fields_text}
use Rattle.wh_fields.specs.FlowFields.{pair_item}
use Rattle.wh_fields.proofs.RepeatedTexts.{fields_more}
use Rattle.wh_fields.proofs.flow_printing.print_row.Goals as goal

pub loop-y-preserved : goal.loop-y-preserved
loop-y-preserved c =
    fields_more (pair_item c.args.flow.now c.args.x) c.loop-y.y (fields_text (pair_item c.args.flow.now c.args.x c.of_index.result)) c.loop-y.out.items c.print_pair.new.out.items c.args.out.now.items
    (ap (λ y. fields_text (pair_item c.args.flow.now c.args.x y)) c.of_index.ensures) c.in_ok-print_pair.ensures c.loop-y.invariant
