use Rattle.std.proofs.Common.{◌+◌, rules}
use Rattle.wh_data.specs.AnswerData.{side_of}
use Rattle.wh_cert.specs.Demands.{trace_asked, flows_asked}
use Rattle.wh_cert.proofs.Judging.{met_ok, stopped_first, judged_after}
use Rattle.wh_cert.proofs.certificate.judge_side.Goals as goal

pub returns-in_err-judge_trace : goal.returns-in_err-judge_trace
returns-in_err-judge_trace c =
    stopped_first (trace_asked c.args.place c.args.tuple.now.plain (side_of c.args.side.now)) (flows_asked (c.args.place + 2) 0 c.args.heads.now (side_of c.args.side.now)) c.judge_trace.result c.from_residual.result
    c.in_err-judge_trace.field-0.0 c.judge_trace.ensures (search rules) (search rules)

pub returns : goal.returns
returns c =
    judged_after (trace_asked c.args.place c.args.tuple.now.plain (side_of c.args.side.now)) (flows_asked (c.args.place + 2) 0 c.args.heads.now (side_of c.args.side.now)) c.judge_flows.result
    (met_ok (trace_asked c.args.place c.args.tuple.now.plain (side_of c.args.side.now)) c.judge_trace.result c.in_ok-judge_trace.field-0 c.judge_trace.ensures (search rules)) c.judge_flows.ensures
