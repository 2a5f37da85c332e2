use Rattle.std.proofs.Common.{rules, ℕ, ◌+◌, List, [], get_or, sym, ap, ◌∙◌, arith}
use Rattle.std.proofs.lemmas.List.{get_or_default}
use Rattle.wh_data.specs.AnswerData.{side_of}
use Rattle.wh_cert.specs.Demands.{flow_asked}
use Rattle.wh_cert.specs.Judged.{Judges}
use Rattle.wh_cert.proofs.Judging.{none_asked, judged_in_turn, met_in_turn}
use Rattle.wh_cert.proofs.Flowing.{flow_judged}
use Rattle.wh_cert.proofs.sides.judge_flows.Goals as goal

pub loop-g-init : goal.loop-g-init
loop-g-init c = none_asked (flow_asked c.args.place c.args.from c.args.heads.now (side_of c.args.side.now))

pub returns-in_err-ask : goal.returns-in_err-ask
returns-in_err-ask c =
    let judged : Judges (flow_asked c.args.place c.args.from c.args.heads.now (side_of c.args.side.now) c.loop-g.g) c.ask.result =
    flow_judged c.args.place c.args.from c.args.heads.now (side_of c.args.side.now) c.loop-g.g c.index-heads-from.result c.index-items-g.result c.is_generator_flow-met.result c.ask.result
    (get_or_default c.args.heads.now (c.args.from + c.loop-g.g) (0, 0) c.index-heads-from.result (omega (arith, c.requires.heads, c.rank.ensures.rank, c.get-g-end.ensures.same)) ∙ sym c.index-heads-from.is)
    (get_or_default c.args.side.now.flows c.loop-g.g [] c.index-items-g.result (omega (arith, c.requires.flows, c.rank.ensures.rank, c.get-g-end.ensures.same)) ∙ sym (ap (λ (l : List (List ℕ)). get_or l c.loop-g.g c.index-items-g.result) c.items.ensures) ∙ sym c.index-items-g.is)
    (c.is_generator_flow-met.ensures c.args.side.now.end.plain c.rank.ensures.roomed.tuple c.graph-net.ensures) c.ask.ensures in
    judged_in_turn (flow_asked c.args.place c.args.from c.args.heads.now (side_of c.args.side.now)) c.loop-g.g c.args.side.now.end.plain.rank c.ask.result c.from_residual.result c.in_err-ask.field-0.0 (omega (arith, c.rank.ensures.rank)) c.loop-g.invariant judged (search rules) (search rules)

pub loop-g-preserved : goal.loop-g-preserved
loop-g-preserved c =
    let judged : Judges (flow_asked c.args.place c.args.from c.args.heads.now (side_of c.args.side.now) c.loop-g.g) c.ask.result =
    flow_judged c.args.place c.args.from c.args.heads.now (side_of c.args.side.now) c.loop-g.g c.index-heads-from.result c.index-items-g.result c.is_generator_flow-met.result c.ask.result
    (get_or_default c.args.heads.now (c.args.from + c.loop-g.g) (0, 0) c.index-heads-from.result (omega (arith, c.requires.heads, c.rank.ensures.rank, c.get-g-end.ensures.same)) ∙ sym c.index-heads-from.is)
    (get_or_default c.args.side.now.flows c.loop-g.g [] c.index-items-g.result (omega (arith, c.requires.flows, c.rank.ensures.rank, c.get-g-end.ensures.same)) ∙ sym (ap (λ (l : List (List ℕ)). get_or l c.loop-g.g c.index-items-g.result) c.items.ensures) ∙ sym c.index-items-g.is)
    (c.is_generator_flow-met.ensures c.args.side.now.end.plain c.rank.ensures.roomed.tuple c.graph-net.ensures) c.ask.ensures in
    met_in_turn (flow_asked c.args.place c.args.from c.args.heads.now (side_of c.args.side.now)) c.loop-g.g c.ask.result c.in_ok-ask.field-0 c.loop-g.invariant judged (search rules)
