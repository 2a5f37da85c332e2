use Rattle.std.proofs.Common.{rules, ◌<◌, ◌^◌, sym, ap, subst}
use Rattle.wh_words.specs.Tuples.{TupleData, Tuple}
use Rattle.wh_data.specs.AnswerData.{stab_verdict_of}
use Rattle.wh_data.specs.AnswerData.AnswerData.{stabiliser}
use Rattle.wh_answer.specs.Certified.{IsDecided, IsValid}
use Rattle.wh_answer.proofs.StabiliserParts.{present_printable}
use Rattle.wh_answer.proofs.Valid.{stab_valid}
use Rattle.wh_answer.proofs.answering.presented.Goals as goal

pub returns-in-Ok-clause-printable : goal.returns-in-Ok-clause-printable
returns-in-Ok-clause-printable c =
    let low : c.args.limit < 2 ^ 32 = search rules in
    present_printable c.args.limit c.args.tuple.now.plain c.in_ok-verdict.verdict c.rank.ensures.roomed.tuple c.requires low c.in_ok-verdict.ensures

pub returns-in-Ok-clause-valid : goal.returns-in-Ok-clause-valid
returns-in-Ok-clause-valid c =
    subst (λ (u : TupleData). IsDecided (stabiliser u (stab_verdict_of c.in_ok-verdict.verdict)) → IsValid (stabiliser u (stab_verdict_of c.in_ok-verdict.verdict))) (sym (ap (λ (u : Tuple). u.plain) c.in-Ok.ensures.same))
    (stab_valid c.args.limit c.args.tuple.now.plain c.in_ok-verdict.verdict c.rank.ensures.roomed.tuple c.requires c.in_ok-verdict.ensures)
