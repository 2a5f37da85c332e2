use Rattle.std.proofs.Common.{◌≡◌, ℕ, ◌+◌, ◌*◌, rules, refl, subst, ◌↔◌, IsTrue, nat_eq, arith, Some}
use Rattle.wh_words.specs.Tuples.{tuple_length}
use Rattle.wh_data.specs.AnswerData.{side_of, plains}
use Rattle.wh_data.specs.Numberings.{side_lines}
use Rattle.wh_cert.specs.Demands.{lengths_agree, sides_asked, level_asked}
use Rattle.wh_cert.specs.Judged.{Judges}
use Rattle.wh_cert.proofs.Judging.{met_ok, stopped_first, judged_after}
use Rattle.wh_cert.proofs.Rising.{numbers_tested}
use Rattle.wh_cert.proofs.certificate.judge_no_level.Goals as goal

pub returns-in_err-judge_sides : goal.returns-in_err-judge_sides
returns-in_err-judge_sides c =
    let n : ℕ = c.args.first.now.plain.rank in
    let tested : IsTrue (nat_eq c.length.result c.length-2.result) ↔ (tuple_length c.args.a.now.end.plain ≡ tuple_length c.args.b.now.end.plain) =
    numbers_tested c.length.result c.length-2.result (tuple_length c.args.a.now.end.plain) (tuple_length c.args.b.now.end.plain) c.length.ensures.length c.length-2.ensures.length in
    stopped_first (sides_asked c.args.place n c.args.heads.now c.args.first.now.plain c.args.second.now.plain (side_of c.args.a.now) (side_of c.args.b.now) lengths_agree)
    (level_asked (c.args.place + 2 * side_lines n) c.args.a.now.end.plain (Some c.args.b.now.end.plain) (plains c.args.tuples.now))
    c.judge_sides.result c.from_residual.result c.in_err-judge_sides.field-0.0 (c.judge_sides.ensures lengths_agree refl tested) (search rules) (search rules)

pub returns : goal.returns
returns c =
    let n : ℕ = c.args.first.now.plain.rank in
    let tested : IsTrue (nat_eq c.length.result c.length-2.result) ↔ (tuple_length c.args.a.now.end.plain ≡ tuple_length c.args.b.now.end.plain) =
    numbers_tested c.length.result c.length-2.result (tuple_length c.args.a.now.end.plain) (tuple_length c.args.b.now.end.plain) c.length.ensures.length c.length-2.ensures.length in
    let place : c.args.place + 2 * c.side_lines.result ≡ c.args.place + 2 * side_lines n = omega (arith, c.side_lines.ensures.same, c.rank.ensures.rank) in
    judged_after (sides_asked c.args.place n c.args.heads.now c.args.first.now.plain c.args.second.now.plain (side_of c.args.a.now) (side_of c.args.b.now) lengths_agree)
    (level_asked (c.args.place + 2 * side_lines n) c.args.a.now.end.plain (Some c.args.b.now.end.plain) (plains c.args.tuples.now))
    c.judge_level.result
    (met_ok (sides_asked c.args.place n c.args.heads.now c.args.first.now.plain c.args.second.now.plain (side_of c.args.a.now) (side_of c.args.b.now) lengths_agree) c.judge_sides.result c.in_ok-judge_sides.field-0 (c.judge_sides.ensures lengths_agree refl tested) (search rules))
    (subst (λ (p : ℕ). Judges (level_asked p c.args.a.now.end.plain (Some c.args.b.now.end.plain) (plains c.args.tuples.now)) c.judge_level.result) place c.judge_level.ensures)
