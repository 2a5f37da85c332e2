use Rattle.std.proofs.Common.{ap, ℕ, List, ◌*◌}
use Rattle.wh_lines.specs.Rows.{fields_text}
use Rattle.wh_fields.specs.Repeated.{below}
use Rattle.wh_fields.specs.FlowFields.{pair_item}
use Rattle.wh_fields.proofs.RepeatedTexts.{fields_more}
use Rattle.wh_fields.proofs.flow_printing.print_pairs.Goals as goal

pub loop-x-preserved : goal.loop-x-preserved
loop-x-preserved c =
    let row : ℕ → List (List ℕ) = λ x. below (pair_item c.args.flow.now x) (2 * c.args.rank) in
    fields_more row c.loop-x.x (fields_text (row c.of_index.result)) c.loop-x.out.items c.print_row.new.out.items c.args.out.now.items (ap (λ x. fields_text (row x)) c.of_index.ensures) c.in_ok-print_row.ensures c.loop-x.invariant
