use Rattle.std.proofs.Common.{[], ◌∷◌, rules, refl, sym, subst}
use Rattle.wh_data.specs.AnswerData.{plains, parts_of}
use Rattle.wh_cert.specs.Demands.{Demand, has_steps, leads_back}
use Rattle.wh_cert.specs.VertexWays.{AreStops}
use Rattle.wh_cert.proofs.Judging.{met_ok, stopped_first, judged_after}
use Rattle.wh_cert.proofs.JudgedRelators.{on_each, one_was_met, own_place}
use Rattle.wh_cert.proofs.relators.judge_way.Goals as goal

pub returns-in_err-ask-clause-judges : goal.returns-in_err-ask-clause-judges
returns-in_err-ask-clause-judges c =
    let steps : Demand = has_steps (parts_of c.args.parts.now) c.args.relator.now in
    let back : Demand = leads_back (parts_of c.args.parts.now) c.args.relator.now in
    stopped_first ((c.args.place, steps) ∷ []) ((c.args.place, back) ∷ []) c.ask.result c.from_residual-in_err-ask.result c.in_err-ask.field-0.0 (c.ask.ensures steps refl c.in_ok-steps.ensures.steps) c.in_err-ask.was (search rules)

pub leads_back-requires-clause-within : goal.leads_back-requires-clause-within
leads_back-requires-clause-within c =
    let steps : Demand = has_steps (parts_of c.args.parts.now) c.args.relator.now in
    own_place c.args.parts.now.vertices c.args.relator.now.at (one_was_met c.args.place steps c.ask.result c.in_ok-ask.field-0 (c.ask.ensures steps refl c.in_ok-steps.ensures.steps) c.in_ok-ask.was).0

pub leads_back-requires-clause-stops : goal.leads_back-requires-clause-stops
leads_back-requires-clause-stops c =
    let steps : Demand = has_steps (parts_of c.args.parts.now) c.args.relator.now in
    let met = one_was_met c.args.place steps c.ask.result c.in_ok-ask.field-0 (c.ask.ensures steps refl c.in_ok-steps.ensures.steps) c.in_ok-ask.was in
    subst (AreStops (plains c.args.parts.now.vertices) c.args.relator.now.at c.args.relator.now.moves) (sym c.deref.ensures.value) (c.in_ok-steps.ensures.stops (c.in_ok-steps.ensures.steps.1 met))

pub returns-clause-judges : goal.returns-clause-judges
returns-clause-judges c =
    let steps : Demand = has_steps (parts_of c.args.parts.now) c.args.relator.now in
    let back : Demand = leads_back (parts_of c.args.parts.now) c.args.relator.now in
    judged_after ((c.args.place, steps) ∷ []) ((c.args.place, back) ∷ []) c.ask-2.result (met_ok ((c.args.place, steps) ∷ []) c.ask.result c.in_ok-ask.field-0 (c.ask.ensures steps refl c.in_ok-steps.ensures.steps) c.in_ok-ask.was)
    (c.ask-2.ensures back refl c.leads_back.ensures)

pub returns-clause-within : goal.returns-clause-within
returns-clause-within c =
    let steps : Demand = has_steps (parts_of c.args.parts.now) c.args.relator.now in
    on_each c.ask-2.result (own_place c.args.parts.now.vertices c.args.relator.now.at (one_was_met c.args.place steps c.ask.result c.in_ok-ask.field-0 (c.ask.ensures steps refl c.in_ok-steps.ensures.steps) c.in_ok-ask.was).0)

pub returns-clause-stops : goal.returns-clause-stops
returns-clause-stops c =
    let steps : Demand = has_steps (parts_of c.args.parts.now) c.args.relator.now in
    let met = one_was_met c.args.place steps c.ask.result c.in_ok-ask.field-0 (c.ask.ensures steps refl c.in_ok-steps.ensures.steps) c.in_ok-ask.was in
    on_each c.ask-2.result (c.in_ok-steps.ensures.stops (c.in_ok-steps.ensures.steps.1 met))
