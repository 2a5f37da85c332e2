use Rattle.std.proofs.Common.{◌↔◌, ◌<◌, IsTrue, List, length, sym, ap, subst, arith}
use Rattle.std.specs.Prelude.{IfOk}
use Rattle.std.specs.List.{All}
use Rattle.std.proofs.lemmas.List.{length-map}
use Rattle.wh_words.specs.Tuples.{TupleData, Tuple}
use Rattle.wh_words.specs.Moves.{Move}
use Rattle.wh_data.specs.AnswerData.{plains}
use Rattle.wh_cert.specs.Demands.{tuple_at, StepsIn}
use Rattle.wh_cert.specs.VertexWays.{AreVertices}
use Rattle.wh_cert.proofs.RelatorNumbers.{steps_from}
use Rattle.wh_cert.proofs.relators.has_steps.Goals as goal

pub follow-requires-clause-vertices : goal.follow-requires-clause-vertices
follow-requires-clause-vertices c =
    subst (λ (ms : List Move). All (λ m. AreVertices m.rank (plains c.items-vertices.result.now)) ms) (sym c.items.ensures)
    (subst (λ (ts : List Tuple). All (λ m. AreVertices m.rank (plains ts)) c.args.relator.now.moves) (sym c.items-vertices.ensures) c.requires.vertices)

pub returns-clause-steps : goal.returns-clause-steps
returns-clause-steps c =
    let vs : List TupleData = plains c.args.parts.now.vertices in
    let within : c.args.relator.now.at < length vs = omega (arith, c.if-relator-vertices.false, ap length c.items-vertices.ensures, length-map c.args.parts.now.vertices (λ (t : Tuple). t.plain)) in
    steps_from vs c.args.relator.now.at c.args.relator.now.moves c.follow.result within
    (subst (λ (ms : List Move). IfOk c.follow.result (λ b. IsTrue b ↔ StepsIn vs (tuple_at vs c.args.relator.now.at) ms)) c.items.ensures
    (subst (λ (ts : List Tuple). IfOk c.follow.result (λ b. IsTrue b ↔ StepsIn (plains ts) (tuple_at (plains ts) c.args.relator.now.at) c.items.result.now)) c.items-vertices.ensures c.follow.ensures.steps))
