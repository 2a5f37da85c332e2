use Rattle.std.proofs.Common.{ap, ◌∙◌, arith}
use Rattle.wh_flow.specs.Tables.{cell}
use Rattle.wh_graph.proofs.CellSums.{none_below, deg_more, deg_whole, cell_most}
use Rattle.wh_graph.proofs.capacity.deg.Goals as goal

pub loop-index-init : goal.loop-index-init
loop-index-init c = record { total = none_below (cell c.args.net.now.cells c.args.x); few = omega arith }

pub overflow_add-total : goal.overflow_add-total
overflow_add-total c = omega (arith, cell_most c.args.net.now c.rank.ensures.net c.args.x c.of_index.result (omega arith))

pub loop-index-preserved : goal.loop-index-preserved
loop-index-preserved c = record {
  total = deg_more c.args.net.now.cells c.args.x c.loop-index.index c.loop-index.total c.cap_of-total.result c.loop-index.invariant.total (c.cap_of-total.ensures ∙ ap (cell c.args.net.now.cells c.args.x) c.of_index.ensures);
  few = omega (arith, cell_most c.args.net.now c.rank.ensures.net c.args.x c.of_index.result (omega arith));
}

pub returns : goal.returns
returns c = c.loop-index.invariant.total ∙ deg_whole c.args.net.now c.rank.ensures.net c.args.x c.loop-index.index (omega arith) (omega arith)
