use Rattle.std.proofs.Common.{◌≡◌, not, sym, ap, ◌∙◌, arith}
use Rattle.wh_words.specs.LetterSets.{in_set}
use Rattle.wh_words.specs.Flows.{where_in}
use Rattle.wh_flow.specs.Tables.{cell}
use Rattle.wh_graph.proofs.CellSums.{none_below, out_more, out_same, out_whole, cell_most}
use Rattle.wh_graph.proofs.capacity.edges_out.Goals as goal
use Rattle.wh_graph.proofs.capacity.edges_out.Goals.{then-not-contains, else-not-contains}

pub loop-index-init : goal.loop-index-init
loop-index-init c = record { total = none_below (λ y. where_in (not (in_set c.args.set y)) (cell c.args.net.now.cells c.args.x y)); few = omega arith }

pub overflow_add-total : goal.overflow_add-total
overflow_add-total c = omega (arith, cell_most c.args.net.now c.rank.ensures.net c.args.x c.of_index-y.result (omega arith))

pub loop-index-preserved : goal.loop-index-preserved
loop-index-preserved c =
    let has : c.contains.result ≡ in_set c.args.set c.loop-index.index = c.contains.ensures.value ∙ ap (in_set c.args.set) c.of_index-y.ensures in
    elim c.if-not-contains.branch [
      | then-not-contains w ↦ record {
        total = w.total-is ∙ out_more c.args.net.now.cells c.args.set c.args.x c.loop-index.index c.loop-index.total w.cap_of-total.result (sym has ∙ w.if-not-contains.true)
            c.loop-index.invariant.total (w.cap_of-total.ensures ∙ ap (cell c.args.net.now.cells c.args.x) c.of_index-y.ensures);
        few = omega (arith, w.total-is, w.cap_of-total.ensures, c.loop-index.invariant.few, cell_most c.args.net.now c.rank.ensures.net c.args.x c.of_index-y.result (omega arith));
      }
      | else-not-contains w ↦ record {
        total = w.total-is ∙ out_same c.args.net.now.cells c.args.set c.args.x c.loop-index.index c.loop-index.total (sym has ∙ w.if-not-contains.false) c.loop-index.invariant.total;
        few = omega (arith, w.total-is, c.loop-index.invariant.few);
      }
    ]

pub returns-clause-value : goal.returns-clause-value
returns-clause-value c = c.loop-index.invariant.total ∙ out_whole c.args.net.now c.rank.ensures.net c.args.set c.args.x c.loop-index.index (omega arith) (omega arith)
