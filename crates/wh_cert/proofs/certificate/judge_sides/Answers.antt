use Rattle.std.proofs.Common.{◌≡◌, ℕ, ◌+◌, ◌∷◌, ◌++◌, rules, subst, arith}
use Rattle.wh_data.specs.AnswerData.{side_of}
use Rattle.wh_data.specs.Numberings.{side_lines}
use Rattle.wh_cert.specs.Demands.{Demand, trace_asked, flows_asked, side_asked}
use Rattle.wh_cert.specs.Judged.{Judges}
use Rattle.wh_cert.proofs.Judging.{met_ok, stopped_first, judged_after}
use Rattle.wh_cert.proofs.certificate.judge_sides.Goals as goal

pub returns-in_err-judge_side : goal.returns-in_err-judge_side
returns-in_err-judge_side c lengths rule tested =
    let n : ℕ = c.args.first.now.plain.rank in
    let asks : Demand = lengths c.args.a.now.end.plain c.args.b.now.end.plain in
    stopped_first (side_asked c.args.place c.args.heads.now c.args.first.now.plain (side_of c.args.a.now))
    (trace_asked (c.args.place + side_lines n) c.args.second.now.plain (side_of c.args.b.now) ++ ((c.args.place + side_lines n + 1, asks) ∷ flows_asked (c.args.place + side_lines n + 2) n c.args.heads.now (side_of c.args.b.now)))
    c.judge_side.result c.from_residual.result c.in_err-judge_side.field-0.0 c.judge_side.ensures (search rules) (search rules)

pub returns : goal.returns
returns c lengths rule tested =
    let n : ℕ = c.args.first.now.plain.rank in
    let asks : Demand = lengths c.args.a.now.end.plain c.args.b.now.end.plain in
    let place : c.args.place + c.side_lines.result ≡ c.args.place + side_lines n = omega (arith, c.side_lines.ensures.same, c.rank.ensures.rank) in
    judged_after (side_asked c.args.place c.args.heads.now c.args.first.now.plain (side_of c.args.a.now))
    (trace_asked (c.args.place + side_lines n) c.args.second.now.plain (side_of c.args.b.now) ++ ((c.args.place + side_lines n + 1, asks) ∷ flows_asked (c.args.place + side_lines n + 2) n c.args.heads.now (side_of c.args.b.now)))
    c.judge_second.result
    (met_ok (side_asked c.args.place c.args.heads.now c.args.first.now.plain (side_of c.args.a.now)) c.judge_side.result c.in_ok-judge_side.field-0 c.judge_side.ensures (search rules))
    (subst (λ (p : ℕ). Judges (trace_asked p c.args.second.now.plain (side_of c.args.b.now) ++ ((p + 1, asks) ∷ flows_asked (p + 2) n c.args.heads.now (side_of c.args.b.now))) c.judge_second.result) place
    (subst (λ (m : ℕ). Judges (trace_asked (c.args.place + c.side_lines.result) c.args.second.now.plain (side_of c.args.b.now) ++ ((c.args.place + c.side_lines.result + 1, asks) ∷ flows_asked (c.args.place + c.side_lines.result + 2) m c.args.heads.now (side_of c.args.b.now))) c.judge_second.result)
    c.requires.one_rank (c.judge_second.ensures asks rule tested)))
