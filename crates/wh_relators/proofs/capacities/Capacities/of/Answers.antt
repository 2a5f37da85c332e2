use Rattle.std.proofs.Common.{◌≡◌, ℕ, ◌*◌, ◌^◌, ap, ◌∙◌, subst, arith}
use Rattle.wh_words.specs.Flows.{degree}
use Rattle.wh_flow.specs.Tables.{cell}
use Rattle.wh_graph.specs.CapacityTables.{HasTable, set_capacity}
use Rattle.wh_relators.proofs.Measured.{sets_of_tuple, degrees_of_tuple}
use Rattle.wh_relators.proofs.capacities.Capacities.of.Goals as goal

pub returns : goal.returns
returns c =
    let letters : 2 * c.get-letters.result ≡ 2 * c.args.tuple.now.plain.rank = omega (arith, c.get-letters.ensures.same, c.rank.ensures.rank) in
    record {
      tuple = c.rank.ensures.roomed.tuple;
      rank = c.rank-2.ensures.rank;
      few = c.requires;
      sets = sets_of_tuple c.graph-net.result c.args.tuple.now.plain (2 ^ (2 * c.args.tuple.now.plain.rank)) c.measure_sets.new.sets c.rank.ensures.roomed.tuple (omega (arith, c.requires)) c.graph-net.ensures
          (subst (λ (n : ℕ). HasTable (set_capacity c.graph-net.result.cells) n c.measure_sets.new.sets) (c.count_sets.ensures ∙ ap (λ k. 2 ^ k) letters) c.measure_sets.ensures.sets);
      degrees = degrees_of_tuple c.graph-net.result c.args.tuple.now.plain (2 * c.args.tuple.now.plain.rank) c.measure_letters.new.degrees c.rank.ensures.roomed.tuple (omega (arith, c.requires)) (omega (arith, c.requires)) c.graph-net.ensures
          (subst (λ (n : ℕ). HasTable (degree (cell c.graph-net.result.cells)) n c.measure_letters.new.degrees) letters c.measure_letters.ensures.degrees);
    }
