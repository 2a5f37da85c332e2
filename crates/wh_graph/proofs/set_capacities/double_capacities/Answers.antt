use Rattle.std.proofs.Common.{◌≡◌, ◌+◌, ◌-◌, ◌*◌, ◌^◌, ◌<◌, get_or, set, sym, ap, ◌∙◌, subst, arith, ℕ}
use Rattle.std.proofs.lemmas.List.{length-set}
use Rattle.wh_graph.specs.CapacityTables.{HasTable, set_capacity}
use Rattle.wh_graph.proofs.SetTables.{table_to, table_more, power_more, capacity_more, capacity_few, edges_few, degree_few}
use Rattle.wh_graph.proofs.set_capacities.double_capacities.Goals as goal

pub overflow_add-capacities : goal.overflow_add-capacities
overflow_add-capacities c =
    let size : c.count_sets-count.result ≡ 2 ^ c.args.x = c.count_sets-count.ensures ∙ ap (λ k. 2 ^ k) c.index.ensures.same in
    let old : get_or c.loop-set.capacities c.loop-set.set 0 ≡ set_capacity c.args.net.now.cells c.loop-set.set = c.loop-set.invariant.table.each c.loop-set.set 0 (omega (arith, size)) in
    omega (arith, old, capacity_few c.args.net.now c.requires.net c.loop-set.set, c.deg-degree.ensures, degree_few c.args.net.now c.requires.net c.args.x)

pub overflow_mul-capacities : goal.overflow_mul-capacities
overflow_mul-capacities c =
    let size : c.count_sets-count.result ≡ 2 ^ c.args.x = c.count_sets-count.ensures ∙ ap (λ k. 2 ^ k) c.index.ensures.same in
    omega (arith, c.requires.edges.each c.loop-set.set 0 (omega (arith, size)), edges_few c.args.net.now c.requires.net c.args.x c.loop-set.set)

pub overflow_sub-capacities : goal.overflow_sub-capacities
overflow_sub-capacities c =
    let size : c.count_sets-count.result ≡ 2 ^ c.args.x = c.count_sets-count.ensures ∙ ap (λ k. 2 ^ k) c.index.ensures.same in
    let low : c.loop-set.set < 2 ^ c.args.x = omega (arith, size) in
    omega (
      arith,
      c.loop-set.invariant.table.each c.loop-set.set 0 (omega (arith, low)),
      c.requires.edges.each c.loop-set.set 0 low,
      c.deg-degree.ensures,
      capacity_more c.loop-set.set c.args.x low c.args.net.now c.requires.net (omega (arith, c.requires.letter)),
    )

pub loop-set-preserved : goal.loop-set-preserved
loop-set-preserved c =
    let f : ℕ → ℕ = set_capacity c.args.net.now.cells in
    let size : c.count_sets-count.result ≡ 2 ^ c.args.x = c.count_sets-count.ensures ∙ ap (λ k. 2 ^ k) c.index.ensures.same in
    let low : c.loop-set.set < 2 ^ c.args.x = omega (arith, size) in
    let v : ℕ = get_or c.loop-set.capacities c.loop-set.set 0 + c.deg-degree.result - 2 * get_or c.args.edges.now c.loop-set.set 0 in
    record {
      table = table_to f (2 ^ c.args.x + c.loop-set.set + 1) (2 ^ c.args.x + (c.loop-set.set + 1)) _ (omega arith)
          (subst (λ (i : ℕ). HasTable f (2 ^ c.args.x + c.loop-set.set + 1) (set c.loop-set.capacities (i + c.loop-set.set) v)) (sym size)
          (table_more f (2 ^ c.args.x + c.loop-set.set) c.loop-set.capacities v c.loop-set.invariant.table
          (omega (arith, low, c.loop-set.invariant.same_length, c.requires.room, power_more c.args.x))
          (omega (
            arith,
            c.loop-set.invariant.table.each c.loop-set.set 0 (omega (arith, low)),
            c.requires.edges.each c.loop-set.set 0 low,
            c.deg-degree.ensures,
            capacity_more c.loop-set.set c.args.x low c.args.net.now c.requires.net (omega (arith, c.requires.letter)),
          ))));
      same_length = length-set c.loop-set.capacities (c.count_sets-count.result + c.loop-set.set) v ∙ c.loop-set.invariant.same_length;
    }
