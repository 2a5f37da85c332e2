use Rattle.std.proofs.Common.{◌≡◌, ◌<◌, ◌-◌, ◌*◌, ◌^◌, ◌∙◌, ap, arith, get_or, length, replicate, ℕ}
use Rattle.std.proofs.lemmas.List.{get_or-replicate, length-replicate}
use Rattle.wh_graph.specs.CapacityTables.{set_capacity}
use Rattle.wh_graph.proofs.SetTables.{table_of_none, power_up, capacity_of_none}
use Rattle.wh_graph.proofs.set_capacities.capacity_table.Goals as goal

pub loop-index-init : goal.loop-index-init
loop-index-init c =
    let letters : c.get-letters.result ≡ c.args.net.now.rank = c.get-letters.ensures.same ∙ c.rank.ensures.same in
    let some : 0 < c.count_sets.result = omega (arith, c.count_sets.ensures, power_up 0 (2 * c.get-letters.result) (omega arith)) in
    let filled : c.in_ok-capacities.capacities.items ≡ replicate c.count_sets.result 0 = c.in_ok-capacities.ensures.items_if_clones_equal (λ y h. h) in
    record {
      table = table_of_none (set_capacity c.args.net.now.cells) c.in_ok-capacities.capacities.items (omega (arith, some, ap length filled, length-replicate {A = ℕ} c.count_sets.result 0)) (capacity_of_none c.args.net.now.cells)
          (ap (λ l. get_or l 0 0) filled ∙ get_or-replicate c.count_sets.result 0 0 0 some);
      size = ap length filled ∙ length-replicate {A = ℕ} c.count_sets.result 0 ∙ c.count_sets.ensures ∙ ap (λ k. 2 ^ (2 * k)) letters;
      room = ap length (c.in_ok-edges.ensures.items_if_clones_equal (λ y h. h)) ∙ length-replicate {A = ℕ} c.count_sets-2.result 0 ∙ c.count_sets-2.ensures ∙ ap (λ k. 2 ^ (2 * k - 1)) letters;
    }

pub count_edges-requires-clause-room : goal.count_edges-requires-clause-room
count_edges-requires-clause-room c =
    let letters : c.get-letters.result ≡ c.args.net.now.rank = c.get-letters.ensures.same ∙ c.rank.ensures.same in
    omega (arith, ap length c.deref_mut.ensures.value, c.loop-index.invariant.room, power_up c.of_index-letter.result (2 * c.args.net.now.rank - 1) (omega (arith, letters, c.of_index-letter.ensures)))
