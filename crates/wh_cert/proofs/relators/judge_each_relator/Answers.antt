use Rattle.std.proofs.Common.{◌≡◌, ℕ, ◌+◌, ◌<◌, List, length, get_or, rules, ap, ◌∙◌, subst, arith}
use Rattle.wh_data.specs.declared.answer.Loop.{Loop}
use Rattle.wh_data.specs.AnswerData.{parts_of}
use Rattle.wh_cert.specs.Demands.{loop_at, loop_asked, asked_below, relator_asked}
use Rattle.wh_cert.specs.Checks.{AreMet}
use Rattle.wh_cert.specs.Judged.{Judges}
use Rattle.wh_cert.proofs.Judging.{none_asked, judged_in_turn, met_in_turn}
use Rattle.wh_cert.proofs.JudgedRelators.{own_relator, own_ranks}
use Rattle.wh_cert.proofs.relators.judge_each_relator.Goals as goal

pub loop-k-init : goal.loop-k-init
loop-k-init c = (c.requires.roomy, none_asked (relator_asked c.args.place c.args.rank (parts_of c.args.parts.now)))

pub judge_relator-requires-clause-moves : goal.judge_relator-requires-clause-moves
judge_relator-requires-clause-moves c =
    own_ranks c.args.rank c.args.parts.now.relators c.index-relators-k.result c.loop-k.k (omega (arith, c.loop-k-test.true, ap length c.items-relators.ensures))
    (c.index-relators-k.is ∙ ap (λ (rs : List Loop). get_or rs c.loop-k.k c.index-relators-k.result) c.items-relators.ensures) c.requires.moves

pub judge_relator-requires-clause-roomy : goal.judge_relator-requires-clause-roomy
judge_relator-requires-clause-roomy c = c.loop-k.invariant.0

pub returns-in_err-judge_relator : goal.returns-in_err-judge_relator
returns-in_err-judge_relator c =
    let within : c.loop-k.k < length c.args.parts.now.relators = omega (arith, c.loop-k-test.true, ap length c.items-relators.ensures) in
    let same : c.index-relators-k.result ≡ loop_at c.args.parts.now.relators c.loop-k.k =
    own_relator c.args.parts.now.relators c.index-relators-k.result c.loop-k.k within (c.index-relators-k.is ∙ ap (λ (rs : List Loop). get_or rs c.loop-k.k c.index-relators-k.result) c.items-relators.ensures) in
    judged_in_turn (relator_asked c.args.place c.args.rank (parts_of c.args.parts.now)) c.loop-k.k (length c.args.parts.now.relators) c.judge_relator.result c.from_residual.result c.in_err-judge_relator.field-0.0 within c.loop-k.invariant.1
    (subst (λ (r : Loop). Judges (loop_asked (c.args.place + c.loop-k.k) c.args.rank (parts_of c.args.parts.now) r) c.judge_relator.result) same c.judge_relator.ensures.judges) c.in_err-judge_relator.was (search rules)

pub loop-k-preserved : goal.loop-k-preserved
loop-k-preserved c =
    let within : c.loop-k.k < length c.args.parts.now.relators = omega (arith, c.loop-k-test.true, ap length c.items-relators.ensures) in
    let same : c.index-relators-k.result ≡ loop_at c.args.parts.now.relators c.loop-k.k =
    own_relator c.args.parts.now.relators c.index-relators-k.result c.loop-k.k within (c.index-relators-k.is ∙ ap (λ (rs : List Loop). get_or rs c.loop-k.k c.index-relators-k.result) c.items-relators.ensures) in (
      c.in_ok-judge_relator.ensures.roomy,
      met_in_turn (relator_asked c.args.place c.args.rank (parts_of c.args.parts.now)) c.loop-k.k c.judge_relator.result c.in_ok-judge_relator.field-0 c.loop-k.invariant.1
          (subst (λ (r : Loop). Judges (loop_asked (c.args.place + c.loop-k.k) c.args.rank (parts_of c.args.parts.now) r) c.judge_relator.result) same c.judge_relator.ensures.judges) c.in_ok-judge_relator.was,
    )

pub returns : goal.returns
returns c =
    let all : c.loop-k.k ≡ length c.args.parts.now.relators = omega (arith, c.loop-k-test.false, ap length c.items-relators.ensures) in
    subst (λ (k : ℕ). AreMet (asked_below (relator_asked c.args.place c.args.rank (parts_of c.args.parts.now)) k)) all c.loop-k.invariant.1
