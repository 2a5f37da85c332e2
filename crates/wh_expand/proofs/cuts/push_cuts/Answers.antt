use Rattle.std.proofs.Common.{◌≡◌, ◌*◌, ◌∙◌, subst, arith}
use Rattle.wh_words.specs.Moves.Kind.{cut}
use Rattle.wh_expand.specs.FirstLevelMoves.{AreLevelMovesBefore}
use Rattle.wh_graph.proofs.EdgeTables.{graph_degree}
use Rattle.wh_graph.proofs.SetTables.{tuple_table}
use Rattle.wh_expand.proofs.cuts.push_cuts.Goals as goal

pub push_cuts_with-requires-clause-degree : goal.push_cuts_with-requires-clause-degree
push_cuts_with-requires-clause-degree c =
    c.deg.ensures
    ∙ graph_degree c.graph-net.result c.args.tuple.now.plain c.of_index-mult.result c.rank.ensures.roomed.tuple (omega (arith, c.requires.rank)) c.graph-net.ensures (omega (arith, c.of_index-mult.ensures))

pub push_cuts_with-requires-clause-capacities : goal.push_cuts_with-requires-clause-capacities
push_cuts_with-requires-clause-capacities c =
    tuple_table c.graph-net.result c.args.tuple.now.plain c.in_ok-capacities.capacities.items c.deref.result.now c.rank.ensures.roomed.tuple (omega (arith, c.requires.rank)) c.graph-net.ensures
    c.deref.ensures.value c.in_ok-capacities.ensures

pub returns : goal.returns
returns c =
    let all : c.loop-index.index ≡ 2 * c.args.tuple.now.plain.rank = omega (arith, c.rank.ensures.rank, c.get-index-end.ensures.same) in
    subst (λ x. AreLevelMovesBefore c.args.tuple.now.plain (cut x 0) c.loop-index.moves.items) all c.loop-index.invariant
