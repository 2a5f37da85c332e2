use Rattle.std.proofs.Common.{◌≡◌, ℕ, ◌+◌, rules, ap, ◌∙◌, subst}
use Rattle.wh_words.specs.Tuples.{TupleData}
use Rattle.wh_data.specs.AnswerData.{SideData, PartsData, side_of, parts_of}
use Rattle.wh_data.specs.Numberings as spec
use Rattle.wh_cert.specs.Demands.{side_asked, parts_asked}
use Rattle.wh_cert.specs.Judged.{Judges}
use Rattle.wh_cert.proofs.Judging.{met_ok, stopped_first, judged_after}
use Rattle.wh_cert.proofs.certificate.judge_presented.Goals as goal

pub returns-in_err-judge_side : goal.returns-in_err-judge_side
returns-in_err-judge_side c =
    let t : TupleData = c.args.tuple.now.plain in
    let s : SideData = side_of c.args.side.now in
    stopped_first (side_asked c.args.place c.args.heads.now t s) (parts_asked (c.args.place + spec.side_lines t.rank) c.args.tree_heads.now s.end (parts_of c.args.parts.now)) c.judge_side.result
    c.from_residual.result c.in_err-judge_side.field-0.0 c.judge_side.ensures c.in_err-judge_side.was (search rules)

pub returns : goal.returns
returns c =
    let t : TupleData = c.args.tuple.now.plain in
    let s : SideData = side_of c.args.side.now in
    let p : PartsData = parts_of c.args.parts.now in
    let lines : c.side_lines.result ≡ spec.side_lines t.rank = c.side_lines.ensures.same ∙ ap spec.side_lines c.rank.ensures.rank in
    judged_after (side_asked c.args.place c.args.heads.now t s) (parts_asked (c.args.place + spec.side_lines t.rank) c.args.tree_heads.now s.end p) c.judge_parts.result
    (met_ok (side_asked c.args.place c.args.heads.now t s) c.judge_side.result c.in_ok-judge_side.field-0 c.judge_side.ensures c.in_ok-judge_side.was)
    (subst (λ (n : ℕ). Judges (parts_asked (c.args.place + n) c.args.tree_heads.now s.end p) c.judge_parts.result) lines c.judge_parts.ensures)
