use Rattle.std.proofs.Common.{ℕ, ◌+◌, length, rules, ap, subst}
use Rattle.wh_data.specs.AnswerData.{parts_of}
use Rattle.wh_cert.specs.Demands.{generators_asked, relators_asked}
use Rattle.wh_cert.specs.Judged.{Judges}
use Rattle.wh_cert.proofs.Judging.{met_ok, stopped_first, judged_after}
use Rattle.wh_cert.proofs.JudgedGenerators.{own_generators}
use Rattle.wh_cert.proofs.presentation.judge_edges.Goals as goal

pub returns-in_err-judge_generators : goal.returns-in_err-judge_generators
returns-in_err-judge_generators c =
    stopped_first (generators_asked c.args.place (parts_of c.args.parts.now)) (relators_asked (c.args.place + 2 + length c.args.parts.now.generators) c.args.end.now.plain.rank (parts_of c.args.parts.now)) c.judge_generators.result
    c.from_residual.result c.in_err-judge_generators.field-0.0 c.judge_generators.ensures c.in_err-judge_generators.was (search rules)

pub judge_relators-requires-clause-generators : goal.judge_relators-requires-clause-generators
judge_relators-requires-clause-generators c =
    own_generators c.args.place (parts_of c.args.parts.now)
    (met_ok (generators_asked c.args.place (parts_of c.args.parts.now)) c.judge_generators.result c.in_ok-judge_generators.field-0 c.judge_generators.ensures c.in_ok-judge_generators.was)

pub returns : goal.returns
returns c =
    judged_after (generators_asked c.args.place (parts_of c.args.parts.now)) (relators_asked (c.args.place + 2 + length c.args.parts.now.generators) c.args.end.now.plain.rank (parts_of c.args.parts.now)) c.judge_relators.result
    (met_ok (generators_asked c.args.place (parts_of c.args.parts.now)) c.judge_generators.result c.in_ok-judge_generators.field-0 c.judge_generators.ensures c.in_ok-judge_generators.was)
    (subst (λ (n : ℕ). Judges (relators_asked (c.args.place + 2 + n) c.args.end.now.plain.rank (parts_of c.args.parts.now)) c.judge_relators.result) (ap length c.items.ensures) c.judge_relators.ensures)
