use Rattle.std.proofs.Common.{◌+◌, nat_eq, [], ◌∷◌, length, rules, refl, ap}
use Rattle.wh_data.specs.AnswerData.{parts_of}
use Rattle.wh_cert.specs.Demands.{counts_generators, asked_below, generator_asked}
use Rattle.wh_cert.proofs.Judging.{met_ok, stopped_first, judged_after}
use Rattle.wh_cert.proofs.Rising.{numbers_tested}
use Rattle.wh_cert.proofs.JudgedGenerators.{count_tested, one_count}
use Rattle.wh_cert.proofs.generators.judge_known.Goals as goal

pub returns-in_err-ask : goal.returns-in_err-ask
returns-in_err-ask c =
    let tested = numbers_tested (length c.args.edges.now) (length c.items-most.result.now) (length c.args.edges.now) (length c.args.parts.now.generators) refl (ap length c.items-most.ensures) in
    stopped_first ((c.args.place, counts_generators (parts_of c.args.parts.now)) ∷ []) (asked_below (generator_asked (c.args.place + 1) (parts_of c.args.parts.now)) (length c.args.parts.now.generators)) c.ask.result
    c.from_residual.result c.in_err-ask.field-0.0
    (c.ask.ensures (counts_generators (parts_of c.args.parts.now)) refl (count_tested (parts_of c.args.parts.now) c.args.edges.now c.requires.are (nat_eq (length c.args.edges.now) (length c.items-most.result.now)) tested)) (search rules) (search rules)

pub judge_each-requires-clause-count : goal.judge_each-requires-clause-count
judge_each-requires-clause-count c =
    let tested = numbers_tested (length c.args.edges.now) (length c.items-most.result.now) (length c.args.edges.now) (length c.args.parts.now.generators) refl (ap length c.items-most.ensures) in
    one_count (parts_of c.args.parts.now) c.args.edges.now c.requires.are c.args.place
    (met_ok ((c.args.place, counts_generators (parts_of c.args.parts.now)) ∷ []) c.ask.result c.in_ok-ask.field-0
    (c.ask.ensures (counts_generators (parts_of c.args.parts.now)) refl (count_tested (parts_of c.args.parts.now) c.args.edges.now c.requires.are (nat_eq (length c.args.edges.now) (length c.items-most.result.now)) tested)) (search rules))

pub returns : goal.returns
returns c =
    let tested = numbers_tested (length c.args.edges.now) (length c.items-most.result.now) (length c.args.edges.now) (length c.args.parts.now.generators) refl (ap length c.items-most.ensures) in
    judged_after ((c.args.place, counts_generators (parts_of c.args.parts.now)) ∷ []) (asked_below (generator_asked (c.args.place + 1) (parts_of c.args.parts.now)) (length c.args.parts.now.generators)) c.judge_each.result
    (met_ok ((c.args.place, counts_generators (parts_of c.args.parts.now)) ∷ []) c.ask.result c.in_ok-ask.field-0
    (c.ask.ensures (counts_generators (parts_of c.args.parts.now)) refl (count_tested (parts_of c.args.parts.now) c.args.edges.now c.requires.are (nat_eq (length c.args.edges.now) (length c.items-most.result.now)) tested)) (search rules))
    c.judge_each.ensures
