use Rattle.std.proofs.Common.{◌+◌, ◌<◌, ◌∙◌, ap, List, Vec, Global, length, take, sym, subst, arith}
use Rattle.std.proofs.lemmas.List.{length-map}
use Rattle.std.proofs.lemmas.List.Elements.{All-contains}
use Rattle.wh_words.specs.Tuples.{TupleData, Tuple}
use Rattle.wh_words.specs.Moves.{Move}
use Rattle.wh_stab.specs.Presentations.{Start}
use Rattle.wh_data.specs.AnswerData.{plains, parts_of}
use Rattle.wh_cert.specs.Demands.{tuple_at}
use Rattle.wh_cert.specs.OffTree.{AreFirstOffTree}
use Rattle.wh_cert.specs.VertexWays.{AreVertices}
use Rattle.wh_cert.proofs.FollowedWays.{at_place}
use Rattle.wh_cert.proofs.FirstOffTree.{along_next, off_next, first_row}
use Rattle.wh_cert.proofs.generators.push_off_tree.Goals as goal
use Rattle.wh_cert.proofs.generators.push_off_tree.Goals.{then-not-leads_along_the_tree+in_ok-push, else-not-leads_along_the_tree}

pub loop-m-init : goal.loop-m-init
loop-m-init c = (c.requires.roomy, c.requires.before)

pub leads_along_the_tree-requires-clause-vertices : goal.leads_along_the_tree-requires-clause-vertices
leads_along_the_tree-requires-clause-vertices c =
    All-contains (λ (m : Move). AreVertices m.rank (plains c.args.parts.now.vertices)) c.args.moves.now c.m-item.result c.requires.vertices (c.loop-m.m-index, omega arith, sym c.m-item.is)

pub leads_along_the_tree-requires-clause-roomy : goal.leads_along_the_tree-requires-clause-roomy
leads_along_the_tree-requires-clause-roomy c = c.loop-m.invariant.0

pub loop-m-preserved : goal.loop-m-preserved
loop-m-preserved c =
    let vs : List TupleData = plains c.args.parts.now.vertices in
    let within : c.args.from < length vs = omega (arith, c.requires.within, length-map c.args.parts.now.vertices (λ (u : Tuple). u.plain)) in
    elim c.if-not-leads_along_the_tree.branch [
      | then-not-leads_along_the_tree+in_ok-push w ↦ (
        c.leads_along_the_tree.ensures.roomy,
        subst (λ (gs : List Start). AreFirstOffTree (parts_of c.args.parts.now) c.args.from (take (c.loop-m.m-index + 1) c.args.moves.now) gs) (sym (ap (λ (v : Vec Start Global). v.items) w.edges-is ∙ w.in_ok-push.ensures.items))
            (off_next (parts_of c.args.parts.now) c.args.from (tuple_at vs c.args.from) (at_place vs c.args.from within) c.args.moves.now c.requires.moves c.loop-m.m-index c.m-item.result c.loop-m.edges.items (omega arith) c.m-item.is w.if-not-leads_along_the_tree.ensures.is c.loop-m.invariant.1),
      )
      | else-not-leads_along_the_tree w ↦ (
        c.leads_along_the_tree.ensures.roomy,
        subst (λ (gs : List Start). AreFirstOffTree (parts_of c.args.parts.now) c.args.from (take (c.loop-m.m-index + 1) c.args.moves.now) gs) (sym (ap (λ (v : Vec Start Global). v.items) w.edges-is))
            (along_next (parts_of c.args.parts.now) c.args.from (tuple_at vs c.args.from) (at_place vs c.args.from within) c.args.moves.now c.requires.moves c.loop-m.m-index c.m-item.result c.loop-m.edges.items (omega arith) c.m-item.is w.if-not-leads_along_the_tree.ensures.is c.loop-m.invariant.1),
      )
    ]

pub returns-clause-edges : goal.returns-clause-edges
returns-clause-edges c =
    let vs : List TupleData = plains c.args.parts.now.vertices in
    let within : c.args.from < length vs = omega (arith, c.requires.within, length-map c.args.parts.now.vertices (λ (u : Tuple). u.plain)) in
    first_row (parts_of c.args.parts.now) c.args.from (tuple_at vs c.args.from) (at_place vs c.args.from within) c.args.moves.now c.requires.moves c.loop-m.m-index c.loop-m.edges.items (omega arith) c.loop-m.invariant.1

pub returns-clause-roomy : goal.returns-clause-roomy
returns-clause-roomy c = c.loop-m.invariant.0
