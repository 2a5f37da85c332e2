use Rattle.std.proofs.Common.{sym, ap, ◌∙◌, arith}
use Rattle.wh_words.specs.LetterSets.{in_set}
use Rattle.wh_words.specs.Edges.{crosses}
use Rattle.wh_graph.proofs.EdgeCounts.{one}
use Rattle.wh_graph.proofs.WordLoops.{edge_more, edges_whole, before_more}
use Rattle.wh_graph.proofs.length_law.crossings.Goals as goal
use Rattle.wh_graph.proofs.length_law.crossings.Goals.{then-leaves, else-leaves}

pub loop-x-preserved : goal.loop-x-preserved
loop-x-preserved c =
    let more : _ = edge_more (crosses (in_set c.args.set)) c.args.word.now c.loop-x.x-index c.loop-x.before c.x-item.result (omega arith) c.loop-x.invariant.before c.x-item.is in
    let before : _ = before_more c.args.word.now c.loop-x.x-index c.x-item.result (omega arith) c.x-item.is in
    elim c.if-leaves.branch [
      | then-leaves w ↦ record {
        total = omega (arith, w.total-is, more, ap one (sym c.leaves.ensures ∙ w.if-leaves.true), c.loop-x.invariant.total);
        few = omega (arith, w.total-is, c.loop-x.invariant.few);
        before = before;
      }
      | else-leaves w ↦ record {
        total = omega (arith, w.total-is, more, ap one (sym c.leaves.ensures ∙ w.if-leaves.false), c.loop-x.invariant.total);
        few = omega (arith, w.total-is, c.loop-x.invariant.few);
        before = before;
      }
    ]

pub returns-after-loop-x : goal.returns-after-loop-x
returns-after-loop-x c = c.loop-x.invariant.total ∙ edges_whole (crosses (in_set c.args.set)) c.args.word.now c.loop-x.x-index (omega arith)
