use Rattle.std.proofs.Common.{ap, ◌∙◌, arith}
use Rattle.wh_words.specs.Letters.{inverse_letter}
use Rattle.wh_words.specs.Edges.{joins}
use Rattle.wh_graph.specs.Laws.{JoinsTwo}
use Rattle.wh_graph.proofs.EdgeCounts.{one}
use Rattle.wh_graph.proofs.WordLoops.{edge_joins, edge_more, edges_whole, before_more}
use Rattle.wh_graph.proofs.whitehead.add_word.Goals as goal

pub add_edge-requires : goal.add_edge-requires
add_edge-requires c =
    let joined : JoinsTwo c.args.net.now.rank (c.loop-x.before, inverse_letter c.x-item.result) =
    edge_joins c.args.net.now.rank c.args.word.now c.loop-x.x-index c.loop-x.before c.x-item.result c.requires.of_rank c.requires.reduced (omega arith) c.loop-x.invariant.before c.x-item.is in
    record {
      apart = λ e. joined.2 (e ∙ c.inverse.ensures);
      x_of_rank = omega (arith, joined.0, c.loop-x.invariant.rank);
      y_of_rank = omega (arith, joined.1, c.inverse.ensures, c.loop-x.invariant.rank);
      few = omega (arith, c.loop-x.invariant.count, c.requires.few);
    }

pub loop-x-preserved : goal.loop-x-preserved
loop-x-preserved c = record {
  rank = c.add_edge.ensures.rank ∙ c.loop-x.invariant.rank;
  edges = λ x y i j. omega (
    arith,
    c.add_edge.ensures.edge x y i j,
    c.loop-x.invariant.edges x y i j,
    ap (λ z. one (joins x y (c.loop-x.before, z))) c.inverse.ensures,
    edge_more (joins x y) c.args.word.now c.loop-x.x-index c.loop-x.before c.x-item.result (omega arith) c.loop-x.invariant.before c.x-item.is,
  );
  count = omega (arith, c.add_edge.ensures.count, c.loop-x.invariant.count);
  before = before_more c.args.word.now c.loop-x.x-index c.x-item.result (omega arith) c.x-item.is;
}

pub returns-after-loop-x-clause-edges : goal.returns-after-loop-x-clause-edges
returns-after-loop-x-clause-edges c =
    λ x y i j. omega (arith, c.loop-x.invariant.edges x y i j, edges_whole (joins x y) c.args.word.now c.loop-x.x-index (omega arith))
