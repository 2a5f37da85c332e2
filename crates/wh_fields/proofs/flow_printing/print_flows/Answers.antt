use Rattle.std.proofs.Common.{◌∙◌, ◌<◌, [], ◌*◌, ◌++◌, length, refl, ap, arith}
use Rattle.std.proofs.lemmas.List.{get_or_read_under, take_all}
use Rattle.wh_lines.specs.Rows.{row_text, rows_text}
use Rattle.wh_fields.specs.FlowFields.{flow_row, flow_rows}
use Rattle.wh_fields.proofs.RepeatedTexts.{flows_more}
use Rattle.wh_fields.proofs.flow_printing.print_flows.Goals as goal

pub print_flow-requires : goal.print_flow-requires
print_flow-requires c =
    let here = get_or_read_under c.args.flows.now c.loop-generator.generator (length c.args.flows.now) c.index-flows-generator.result [] c.index-flows-generator.is (omega (arith, c.requires.count, c.get-generator-end.ensures.same, c.loop-generator-test.true)) refl in
    rw (c.of_index.ensures, here) (c.requires.values c.loop-generator.generator (omega (arith, c.get-generator-end.ensures.same, c.loop-generator-test.true)))

pub loop-generator-preserved : goal.loop-generator-preserved
loop-generator-preserved c =
    let g = c.loop-generator.generator in
    let within : g < length c.args.flows.now = omega (arith, c.requires.count, c.get-generator-end.ensures.same, c.loop-generator-test.true) in
    let here = get_or_read_under c.args.flows.now g (length c.args.flows.now) c.index-flows-generator.result [] c.index-flows-generator.is within refl in
    flows_more c.args.rank g c.args.flows.now (row_text (flow_row c.args.rank c.of_index.result c.index-flows-generator.result)) c.loop-generator.out.items c.print_flow.new.out.items c.args.out.now.items within
    (ap (λ a. row_text (flow_row c.args.rank a c.index-flows-generator.result)) c.of_index.ensures ∙ ap (λ f. row_text (flow_row c.args.rank (2 * g) f)) here) c.in_ok-print_flow.ensures c.loop-generator.invariant

pub returns : goal.returns
returns c =
    c.loop-generator.invariant
    ∙ ap (λ fs. c.args.out.now.items ++ rows_text (flow_rows c.args.rank 0 fs)) (take_all c.loop-generator.generator c.args.flows.now (omega (arith, c.requires.count, c.get-generator-end.ensures.same, c.loop-generator-test.false)))
