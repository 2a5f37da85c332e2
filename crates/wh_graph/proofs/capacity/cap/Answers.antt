use Rattle.std.proofs.Common.{◌≡◌, sym, ap, ◌∙◌, arith}
use Rattle.wh_words.specs.LetterSets.{in_set}
use Rattle.wh_words.specs.Flows.{where_in}
use Rattle.wh_graph.proofs.CellSums.{out_below, none_below, cap_more, cap_same, cap_whole}
use Rattle.wh_graph.proofs.capacity.cap.Goals as goal
use Rattle.wh_graph.proofs.capacity.cap.Goals.{then-contains, else-contains}

pub loop-index-init : goal.loop-index-init
loop-index-init c = record { total = none_below (λ x. where_in (in_set c.args.set x) (out_below c.args.net.now.cells c.args.set x 52)); few = omega arith }

pub loop-index-preserved : goal.loop-index-preserved
loop-index-preserved c =
    let has : c.contains.result ≡ in_set c.args.set c.loop-index.index = c.contains.ensures.value ∙ ap (in_set c.args.set) c.of_index-x.ensures in
    elim c.if-contains.branch [
      | then-contains w ↦ record {
        total = w.total-is ∙ cap_more c.args.net.now.cells c.args.set c.loop-index.index c.loop-index.total w.edges_out-total.result (sym has ∙ w.if-contains.true)
            c.loop-index.invariant.total (w.edges_out-total.ensures.value ∙ ap (λ x. out_below c.args.net.now.cells c.args.set x 52) c.of_index-x.ensures);
        few = omega (arith, w.total-is, w.edges_out-total.ensures.few, c.loop-index.invariant.few);
      }
      | else-contains w ↦ record {
        total = w.total-is ∙ cap_same c.args.net.now.cells c.args.set c.loop-index.index c.loop-index.total (sym has ∙ w.if-contains.false) c.loop-index.invariant.total;
        few = omega (arith, w.total-is, c.loop-index.invariant.few);
      }
    ]

pub returns : goal.returns
returns c = c.loop-index.invariant.total ∙ cap_whole c.args.net.now c.rank.ensures.net c.args.set c.loop-index.index (omega arith) (omega arith)
