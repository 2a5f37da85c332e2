use Rattle.std.proofs.Common.{ℕ, ◌+◌, List, [], ◌∷◌, rules, ◌∙◌, subst}
use Rattle.wh_data.specs.AnswerData.{side_of}
use Rattle.wh_cert.specs.Demands.{Placed, trace_asked, flows_asked}
use Rattle.wh_cert.specs.Judged.{Judges}
use Rattle.wh_cert.proofs.Judging.{met_ok, stopped_first, judged_after}
use Rattle.wh_cert.proofs.certificate.judge_second.Goals as goal

pub returns-in_err-judge_trace : goal.returns-in_err-judge_trace
returns-in_err-judge_trace c lengths rule tested =
    let flows : List Placed = flows_asked (c.args.place + 2) c.args.tuple.now.plain.rank c.args.heads.now (side_of c.args.side.now) in
    stopped_first (trace_asked c.args.place c.args.tuple.now.plain (side_of c.args.side.now)) ((c.args.place + 1, lengths) ∷ flows) c.judge_trace.result c.from_residual.result
    c.in_err-judge_trace.field-0.0 c.judge_trace.ensures (search rules) (search rules)

pub returns-in_err-ask : goal.returns-in_err-ask
returns-in_err-ask c lengths rule tested =
    let flows : List Placed = flows_asked (c.args.place + 2) c.args.tuple.now.plain.rank c.args.heads.now (side_of c.args.side.now) in
    judged_after (trace_asked c.args.place c.args.tuple.now.plain (side_of c.args.side.now)) ((c.args.place + 1, lengths) ∷ flows) c.from_residual-in_err-ask.result
    (met_ok (trace_asked c.args.place c.args.tuple.now.plain (side_of c.args.side.now)) c.judge_trace.result c.in_ok-judge_trace.field-0 c.judge_trace.ensures (search rules))
    (stopped_first ((c.args.place + 1, lengths) ∷ []) flows c.ask.result c.from_residual-in_err-ask.result c.in_err-ask.field-0.0 (c.ask.ensures lengths rule tested) (search rules) (search rules))

pub returns : goal.returns
returns c lengths rule tested =
    let flows : List Placed = flows_asked (c.args.place + 2) c.args.tuple.now.plain.rank c.args.heads.now (side_of c.args.side.now) in
    judged_after (trace_asked c.args.place c.args.tuple.now.plain (side_of c.args.side.now)) ((c.args.place + 1, lengths) ∷ flows) c.judge_flows.result
    (met_ok (trace_asked c.args.place c.args.tuple.now.plain (side_of c.args.side.now)) c.judge_trace.result c.in_ok-judge_trace.field-0 c.judge_trace.ensures (search rules))
    (judged_after ((c.args.place + 1, lengths) ∷ []) flows c.judge_flows.result
    (met_ok ((c.args.place + 1, lengths) ∷ []) c.ask.result c.in_ok-ask.field-0 (c.ask.ensures lengths rule tested) (search rules))
    (subst (λ (from : ℕ). Judges (flows_asked (c.args.place + 2) from c.args.heads.now (side_of c.args.side.now)) c.judge_flows.result) (c.get.ensures.same ∙ c.rank.ensures.rank) c.judge_flows.ensures))
