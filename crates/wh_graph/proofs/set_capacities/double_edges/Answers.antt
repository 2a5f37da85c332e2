use Rattle.std.proofs.Common.{◌≡◌, ◌+◌, ◌^◌, ◌<◌, get_or, set, sym, ap, ◌∙◌, subst, arith, ℕ}
use Rattle.std.proofs.lemmas.List.{length-set}
use Rattle.wh_graph.specs.CapacityTables.{HasTable, edges_into}
use Rattle.wh_graph.proofs.SetTables.{table_to, table_more, power_more, edges_more, edges_few}
use Rattle.wh_graph.proofs.CellSums.{cell_most}
use Rattle.wh_graph.proofs.set_capacities.double_edges.Goals as goal

pub overflow_add-edges : goal.overflow_add-edges
overflow_add-edges c =
    let size : c.count_sets-count.result ≡ 2 ^ c.args.y = c.count_sets-count.ensures ∙ ap (λ k. 2 ^ k) c.index.ensures.same in
    let count : get_or c.loop-set.edges c.loop-set.set 0 ≡ edges_into c.args.net.now.cells c.args.x c.loop-set.set = c.loop-set.invariant.table.each c.loop-set.set 0 (omega (arith, size)) in
    omega (arith, count, c.cap_of-joining.ensures, edges_few c.args.net.now c.requires.net c.args.x c.loop-set.set, cell_most c.args.net.now c.requires.net c.args.x c.args.y (omega (arith, c.requires.letter)))

pub loop-set-preserved : goal.loop-set-preserved
loop-set-preserved c =
    let size : c.count_sets-count.result ≡ 2 ^ c.args.y = c.count_sets-count.ensures ∙ ap (λ k. 2 ^ k) c.index.ensures.same in
    let low : c.loop-set.set < 2 ^ c.args.y = omega (arith, size) in
    let count : get_or c.loop-set.edges c.loop-set.set 0 ≡ edges_into c.args.net.now.cells c.args.x c.loop-set.set = c.loop-set.invariant.table.each c.loop-set.set 0 (omega (arith, low)) in
    let v : ℕ = get_or c.loop-set.edges c.loop-set.set 0 + c.cap_of-joining.result in
    record {
      table = table_to (edges_into c.args.net.now.cells c.args.x) (2 ^ c.args.y + c.loop-set.set + 1) (2 ^ c.args.y + (c.loop-set.set + 1)) _ (omega arith)
          (subst (λ (i : ℕ). HasTable (edges_into c.args.net.now.cells c.args.x) (2 ^ c.args.y + c.loop-set.set + 1) (set c.loop-set.edges (i + c.loop-set.set) v)) (sym size)
          (table_more (edges_into c.args.net.now.cells c.args.x) (2 ^ c.args.y + c.loop-set.set) c.loop-set.edges v c.loop-set.invariant.table
          (omega (arith, low, c.loop-set.invariant.same_length, c.requires.room, power_more c.args.y))
          (omega (arith, count, c.cap_of-joining.ensures, edges_more c.loop-set.set c.args.y low c.args.net.now.cells c.args.x (omega (arith, c.requires.letter))))));
      same_length = length-set c.loop-set.edges (c.count_sets-count.result + c.loop-set.set) v ∙ c.loop-set.invariant.same_length;
    }
