use Rattle.std.proofs.Common.{[], ◌∷◌, rules, refl, sym, subst}
use Rattle.wh_data.specs.AnswerData.{plains, parts_of}
use Rattle.wh_cert.specs.Demands.{Placed, has_steps, leads_back, has_short_images, is_identity, has_numbers}
use Rattle.wh_cert.specs.VertexWays.{AreStops}
use Rattle.wh_cert.proofs.Judging.{met_ok, stopped_first, judged_after}
use Rattle.wh_cert.proofs.JudgedRelators.{own_vertices}
use Rattle.wh_cert.proofs.relators.judge_relator.Goals as goal

pub judge_way-requires-clause-vertices : goal.judge_way-requires-clause-vertices
judge_way-requires-clause-vertices c = own_vertices c.args.rank (plains c.args.parts.now.vertices) c.args.relator.now.moves c.requires.vertices c.requires.moves

pub returns-in_err-judge_way-clause-judges : goal.returns-in_err-judge_way-clause-judges
returns-in_err-judge_way-clause-judges c =
    let steps : Placed = (c.args.place, has_steps (parts_of c.args.parts.now) c.args.relator.now) in
    let back : Placed = (c.args.place, leads_back (parts_of c.args.parts.now) c.args.relator.now) in
    let short : Placed = (c.args.place, has_short_images c.args.rank c.args.relator.now) in
    let identity : Placed = (c.args.place, is_identity c.args.rank c.args.relator.now) in
    let numbers : Placed = (c.args.place, has_numbers (parts_of c.args.parts.now) c.args.relator.now) in
    stopped_first (steps ∷ back ∷ []) (short ∷ identity ∷ numbers ∷ []) c.judge_way.result c.from_residual.result c.in_err-judge_way.field-0.0 c.judge_way.ensures.judges c.in_err-judge_way.was (search rules)

pub returns-in_err-judge_composite-clause-judges : goal.returns-in_err-judge_composite-clause-judges
returns-in_err-judge_composite-clause-judges c =
    let steps : Placed = (c.args.place, has_steps (parts_of c.args.parts.now) c.args.relator.now) in
    let back : Placed = (c.args.place, leads_back (parts_of c.args.parts.now) c.args.relator.now) in
    let short : Placed = (c.args.place, has_short_images c.args.rank c.args.relator.now) in
    let identity : Placed = (c.args.place, is_identity c.args.rank c.args.relator.now) in
    let numbers : Placed = (c.args.place, has_numbers (parts_of c.args.parts.now) c.args.relator.now) in
    judged_after (steps ∷ back ∷ []) (short ∷ identity ∷ numbers ∷ []) c.from_residual-in_err-judge_composite.result (met_ok (steps ∷ back ∷ []) c.judge_way.result c.in_ok-judge_way.field-0 c.judge_way.ensures.judges c.in_ok-judge_way.was)
    (stopped_first (short ∷ identity ∷ []) (numbers ∷ []) c.judge_composite.result c.from_residual-in_err-judge_composite.result c.in_err-judge_composite.field-0.0 c.judge_composite.ensures c.in_err-judge_composite.was (search rules))

pub has_numbers-requires-clause-stops : goal.has_numbers-requires-clause-stops
has_numbers-requires-clause-stops c =
    subst (AreStops (plains c.args.parts.now.vertices) c.args.relator.now.at c.args.relator.now.moves) (sym c.deref.ensures.value) c.in_ok-judge_way.ensures.stops

pub returns-clause-judges : goal.returns-clause-judges
returns-clause-judges c =
    let steps : Placed = (c.args.place, has_steps (parts_of c.args.parts.now) c.args.relator.now) in
    let back : Placed = (c.args.place, leads_back (parts_of c.args.parts.now) c.args.relator.now) in
    let short : Placed = (c.args.place, has_short_images c.args.rank c.args.relator.now) in
    let identity : Placed = (c.args.place, is_identity c.args.rank c.args.relator.now) in
    let numbers : Placed = (c.args.place, has_numbers (parts_of c.args.parts.now) c.args.relator.now) in
    judged_after (steps ∷ back ∷ []) (short ∷ identity ∷ numbers ∷ []) c.ask.result (met_ok (steps ∷ back ∷ []) c.judge_way.result c.in_ok-judge_way.field-0 c.judge_way.ensures.judges c.in_ok-judge_way.was)
    (judged_after (short ∷ identity ∷ []) (numbers ∷ []) c.ask.result (met_ok (short ∷ identity ∷ []) c.judge_composite.result c.in_ok-judge_composite.field-0 c.judge_composite.ensures c.in_ok-judge_composite.was)
    (c.ask.ensures (has_numbers (parts_of c.args.parts.now) c.args.relator.now) refl c.has_numbers.ensures))
