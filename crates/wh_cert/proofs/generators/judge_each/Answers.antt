use Rattle.std.proofs.Common.{◌≡◌, List, length, get_or, rules, refl, ap, ◌∙◌, subst, arith}
use Rattle.wh_stab.specs.Presentations.{Start}
use Rattle.wh_data.specs.AnswerData.{parts_of}
use Rattle.wh_cert.specs.Demands.{is_generator, asked_below, generator_asked}
use Rattle.wh_cert.specs.Checks.{AreMet}
use Rattle.wh_cert.specs.Judged.{Judges}
use Rattle.wh_cert.proofs.Judging.{none_asked, judged_in_turn, met_in_turn}
use Rattle.wh_cert.proofs.JudgedGenerators.{generator_tested}
use Rattle.wh_cert.proofs.generators.judge_each.Goals as goal

pub loop-k-init : goal.loop-k-init
loop-k-init c = none_asked (generator_asked c.args.place (parts_of c.args.parts.now))

pub returns-in_err-ask : goal.returns-in_err-ask
returns-in_err-ask c =
    let judged : Judges (generator_asked c.args.place (parts_of c.args.parts.now) c.loop-k.k) c.ask.result =
    c.ask.ensures (is_generator (parts_of c.args.parts.now) c.loop-k.k) refl
    (generator_tested (parts_of c.args.parts.now) c.args.edges.now c.requires.are c.loop-k.k c.index-generators-k.result c.index-edges-k.result c.is_same.result
    (omega (arith, c.loop-k-test.true, ap length c.items-generators.ensures)) (omega (arith, c.loop-k-test.true, ap length c.items-generators.ensures, c.requires.count))
    (c.index-generators-k.is ∙ ap (λ (gs : List Start). get_or gs c.loop-k.k c.index-generators-k.result) c.items-generators.ensures) c.index-edges-k.is c.is_same.ensures) in
    judged_in_turn (generator_asked c.args.place (parts_of c.args.parts.now)) c.loop-k.k (length c.args.parts.now.generators) c.ask.result c.from_residual.result c.in_err-ask.field-0.0
    (omega (arith, c.loop-k-test.true, ap length c.items-generators.ensures)) c.loop-k.invariant judged (search rules) (search rules)

pub loop-k-preserved : goal.loop-k-preserved
loop-k-preserved c =
    let judged : Judges (generator_asked c.args.place (parts_of c.args.parts.now) c.loop-k.k) c.ask.result =
    c.ask.ensures (is_generator (parts_of c.args.parts.now) c.loop-k.k) refl
    (generator_tested (parts_of c.args.parts.now) c.args.edges.now c.requires.are c.loop-k.k c.index-generators-k.result c.index-edges-k.result c.is_same.result
    (omega (arith, c.loop-k-test.true, ap length c.items-generators.ensures)) (omega (arith, c.loop-k-test.true, ap length c.items-generators.ensures, c.requires.count))
    (c.index-generators-k.is ∙ ap (λ (gs : List Start). get_or gs c.loop-k.k c.index-generators-k.result) c.items-generators.ensures) c.index-edges-k.is c.is_same.ensures) in
    met_in_turn (generator_asked c.args.place (parts_of c.args.parts.now)) c.loop-k.k c.ask.result c.in_ok-ask.field-0 c.loop-k.invariant judged (search rules)

pub returns : goal.returns
returns c =
    let all : c.loop-k.k ≡ length c.args.parts.now.generators = omega (arith, c.loop-k-test.false, ap length c.items-generators.ensures) in
    subst (λ k. AreMet (asked_below (generator_asked c.args.place (parts_of c.args.parts.now)) k)) all c.loop-k.invariant
