use Rattle.std.proofs.Common.{◌<◌, List, ℕ, length, rules, ap, subst, arith}
use Rattle.wh_data.specs.AnswerData.{answer_of, certificate_of}
use Rattle.wh_cert.specs.Demands.{asked}
use Rattle.wh_cert.specs.Judged.{Judges}
use Rattle.wh_cert.proofs.Numbering.{judged_line}
use Rattle.wh_cert.proofs.certificate.check.Goals as goal

pub number_at-requires : goal.number_at-requires
number_at-requires c =
    let within : c.in-Err-Broken.place < length c.args.numbered.now.lines =
    judged_line (certificate_of c.args.numbered.now) c.judge_answer.result c.in-Err-Broken.place c.in-Err-Broken.rule c.requires
    (subst (λ (heads : List (ℕ × ℕ)). Judges (asked heads c.args.numbered.now.tree_heads (answer_of c.args.numbered.now.answer)) c.judge_answer.result) c.items-heads.ensures
    (subst (λ (heads : List ℕ). Judges (asked c.items-heads.result.now heads (answer_of c.args.numbered.now.answer)) c.judge_answer.result) c.items.ensures c.judge_answer.ensures)) (search rules) in
    omega (arith, within, ap length c.items-in-Err-Broken.ensures)
