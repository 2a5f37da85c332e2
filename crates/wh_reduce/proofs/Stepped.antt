-- From the network of a tuple to its step: what the least cuts of the network are in the tuple.
use Rattle.std.proofs.Common.{◌≡◌, ℕ, ◌+◌, ◌*◌, ◌^◌, ◌<◌, ◌≤◌, inl, inr, refl, sym, subst, arith, Option, None, Some, ◌↔◌}
use Rattle.std.specs.Prelude.{IsNone, IfSome, MatchOption}
use Rattle.std.proofs.lemmas.Bool.{cases_lt}
use Rattle.wh_words.specs.Letters.{inverse_letter}
use Rattle.wh_words.specs.LetterSets.{in_set}
use Rattle.wh_words.specs.Tuples.{TupleData, IsTuple}
use Rattle.wh_words.specs.Moves.{Move, IsCut, cut_move}
use Rattle.wh_words.specs.CapacityTraces.{IsFlatByCapacities, IsFlatByCapacitiesAt, IsLeastCapacityCut, IsCapacityStep}
use Rattle.wh_words.specs.Edges.{cap, deg}
use Rattle.wh_words.specs.Flows.{degree, capacity_of_set, IsLeastCut}
use Rattle.wh_flow.specs.Tables.{cell}
use Rattle.wh_flow.specs.Nets.{Net}
use Rattle.wh_graph.specs.Graphs.{IsGraph}
use Rattle.wh_graph.proofs.NetworkCuts.{graph_least_cut, graph_flat}
use Rattle.wh_graph.proofs.EdgeTables.{graph_capacity, graph_degree}
use Rattle.wh_reduce.specs.FlatNetworks.{IsFlatNetworkAt, IsLeastCutBelow}

-- A least cut with at least the degree as its capacity leaves no set below the degree.
pub least_cut_flat : (net : Net) (a set : ℕ) → IsLeastCut (cell net.cells) a (inverse_letter a) (in_set set) → degree (cell net.cells) a ≤ capacity_of_set (cell net.cells) (in_set set) → IsFlatNetworkAt net a
least_cut_flat net a set l h other s = omega (arith, h, l.cut.minimum other s)

pub no_degree_flat : (net : Net) (a : ℕ) → degree (cell net.cells) a ≡ 0 → IsFlatNetworkAt net a
no_degree_flat net a h other s = omega (arith, h)

module _ (net : Net) (t : TupleData) (is : IsTuple t) (rank : t.rank ≤ 26) (graph : IsGraph net t) where
  -- What is known of the generators below the next one.
  pub flat_more : (generator a : ℕ) → a ≡ 2 * generator → generator < t.rank → ((g : ℕ) → g < generator → IsFlatByCapacitiesAt t (2 * g)) → IsFlatNetworkAt net a
      → (g : ℕ) → g < generator + 1 → IsFlatByCapacitiesAt t (2 * g)
  flat_more generator a e low before flat g l = elim (cases_lt g generator) [
    | inl k ↦ before g k
    | inr k ↦
        let same : a ≡ 2 * g = omega (arith, e, k, l) in
        subst (IsFlatByCapacitiesAt t) same ((graph_flat net t a is rank graph (omega (arith, e, low))).1 flat)
  ]

  pub found_cut : (a set : ℕ) → a < 2 * t.rank → IsLeastCutBelow net a set → IsLeastCapacityCut t a set
  found_cut a set low f = (graph_least_cut net t a set is rank graph low (subst (λ (n : ℕ). set < 2 ^ (2 * n)) graph.rank f.within)).0 f.cut

  pub found_step : (generator a set : ℕ) (m : Move) → a ≡ 2 * generator → generator < t.rank → ((g : ℕ) → g < generator → IsFlatByCapacitiesAt t (2 * g)) → IsLeastCutBelow net a set → m ≡ cut_move t.rank a set
      → IsCapacityStep t m
  found_step generator a set m e low before f is_cut = record {
    generator = generator;
    set = set;
    is = subst (λ (x : ℕ). m ≡ cut_move t.rank x set) e is_cut;
    cut = subst (λ (x : ℕ). IsLeastCapacityCut t x set) e (found_cut a set (omega (arith, e, low)) f);
    below = subst (λ (x : ℕ). cap (in_set set) t < deg x t) e (omega (arith, f.below, graph_capacity net t (in_set set) is rank graph, graph_degree net t a is rank graph (omega (arith, e, low, rank))));
    earlier = before;
  }

  -- The move that the cut of the set makes.
  pub found_move : (generator a set n : ℕ) (r : Option Move) → a ≡ 2 * generator → generator < t.rank → ((g : ℕ) → g < generator → IsFlatByCapacitiesAt t (2 * g)) → IsLeastCutBelow net a set → n ≡ t.rank
      → IsNone r ↔ ¬ (IsCut n a set) → IfSome r (λ m. m ≡ cut_move n a set) → MatchOption r (IsFlatByCapacities t) (IsCapacityStep t)
  found_move generator a set n None e low before f same none some =
      absurd (none.0 refl (subst (λ (k : ℕ). IsCut k a set) (sym same) (found_cut a set (omega (arith, e, low)) f).valid))
  found_move generator a set n (Some m) e low before f same none some = found_step generator a set m e low before f (subst (λ (k : ℕ). m ≡ cut_move k a set) same some)

-- Cuts are of generators of the rank alone.
pub flat_past : (t : TupleData) (n : ℕ) → t.rank ≤ n → ((g : ℕ) → g < n → IsFlatByCapacitiesAt t (2 * g)) → IsFlatByCapacities t
flat_past t n h all g set c = all g (omega (arith, c.of_rank, h)) set c
