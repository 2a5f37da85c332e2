use Rattle.std.proofs.Common.{◌+◌, refl, arith}
use Rattle.std.proofs.lemmas.List.{length-set}
use Rattle.wh_graph.specs.CapacityTables.{edges_into}
use Rattle.wh_graph.proofs.SetTables.{table_first, power_up, edges_into_none}
use Rattle.wh_graph.proofs.set_capacities.count_edges.Goals as goal

pub loop-index-init : goal.loop-index-init
loop-index-init c = record {
  table = table_first (edges_into c.args.net.now.cells c.args.x) c.args.edges.now _ (omega (arith, c.requires.room, power_up 0 c.args.x (omega arith))) refl (edges_into_none c.args.net.now.cells c.args.x);
  same_length = length-set c.args.edges.now 0 0;
}

pub double_edges-requires-clause-room : goal.double_edges-requires-clause-room
double_edges-requires-clause-room c =
    omega (arith, c.requires.room, c.loop-index.invariant.same_length, c.of_index.ensures, c.index-index-end.ensures.same, power_up (c.of_index.result + 1) c.args.x (omega (arith, c.of_index.ensures, c.index-index-end.ensures.same)))
