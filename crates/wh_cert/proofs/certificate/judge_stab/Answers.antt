use Rattle.std.proofs.Common.{sym, subst}
use Rattle.wh_data.specs.declared.answer.StabVerdict.{StabVerdict}
use Rattle.wh_data.specs.AnswerData.{stab_verdict_of}
use Rattle.wh_cert.specs.Demands.{stab_asked}
use Rattle.wh_cert.specs.Judged.{Judges}
use Rattle.wh_cert.proofs.certificate.judge_stab.Goals as goal

pub returns-in-Done : goal.returns-in-Done
returns-in-Done c = subst (λ (v : StabVerdict). Judges (stab_asked c.args.place c.args.heads.now c.args.tree_heads.now c.args.tuple.now.plain (stab_verdict_of v)) c.judge_presented.result) (sym c.in-Done.is) c.judge_presented.ensures
