-- The least cut of the network of a Whitehead graph, between a letter and its inverse, is the least cut of the tuple.
use Rattle.std.proofs.Common.{◌≡◌, ℕ, ◌*◌, ◌^◌, ◌<◌, ◌≤◌, Bool, false, sym, ◌∙◌, inl, inr, arith}
use Rattle.std.proofs.lemmas.Bool.{cases_lt, eqb-false}
use Rattle.std.proofs.lemmas.Nat.Bits.{bit_at-lt, bit_at_above}
use Rattle.std.specs.Int.{bit_at}
use Rattle.wh_words.specs.Letters.{inverse_letter}
use Rattle.wh_words.specs.LetterSets.{in_set}
use Rattle.wh_words.specs.Tuples.{TupleData, IsTuple}
use Rattle.wh_words.specs.Moves.{IsCut}
use Rattle.wh_words.specs.Edges.{cap}
use Rattle.wh_words.specs.Flows.{capacity_of_set, Separates, IsLeastCut}
use Rattle.wh_words.specs.CapacityTraces.{IsLeastCapacityCut}
use Rattle.wh_flow.specs.Tables.{cell}
use Rattle.wh_flow.specs.Nets.{Net}
use Rattle.wh_graph.specs.Graphs.{IsGraph, GraphHasTheLeastCuts, GraphTellsFlatness}
use Rattle.wh_graph.proofs.SetNumbers.{mask, mask_lt, mask_has, mask_cut, holds, omits, holds_back}
use Rattle.wh_graph.proofs.Agreement.{mask_cap}
use Rattle.wh_graph.proofs.EdgeTables.{graph_capacity, graph_degree}

pub omits_back : (set x : ℕ) → in_set set x ≡ false → bit_at set x ≡ 0
omits_back set x h = let not_one : bit_at set x ≡ 1 → ⊥ = eqb-false (bit_at set x) 1 h in omega (arith, bit_at-lt set x, not_one)

-- The set of a cut separates its multiplier from the inverse of that.
pub cut_separates : (n a set : ℕ) → IsCut n a set → Separates a (inverse_letter a) (in_set set)
cut_separates n a set v = record { holds = holds set a v.holds; omits = omits set (inverse_letter a) v.omits }

-- A number below 2 ^ k has the bit x only where x is below k.
bit_below : (k set x : ℕ) → set < 2 ^ k → bit_at set x ≡ 1 → x < k
bit_below k set x l e = elim (cases_lt x k) [ inl h ↦ h | inr h ↦ absurd (omega (arith, e, bit_at_above set k x l h)) ]

module _ (net : Net) (t : TupleData) (is : IsTuple t) (rank : t.rank ≤ 26) (graph : IsGraph net t) (a set : ℕ) (of_rank : a < 2 * t.rank) where
  capacity : (has : ℕ → Bool) → capacity_of_set (cell net.cells) has ≡ cap has t
  capacity has = graph_capacity net t has is rank graph

  to_tuple : set < 2 ^ (2 * t.rank) → IsLeastCut (cell net.cells) a (inverse_letter a) (in_set set) → IsLeastCapacityCut t a set
  to_tuple within l = record {
    valid = record {
      of_rank = of_rank;
      within = within;
      holds = holds_back set a l.cut.separates.holds;
      omits = omits_back set (inverse_letter a) l.cut.separates.omits;
    };
    least = λ u v. omega (arith, l.cut.minimum (in_set u) (cut_separates t.rank a u v), capacity (in_set set), capacity (in_set u));
    inmost = λ u v same x e. holds_back u x (l.least (in_set u) (record {
      separates = cut_separates t.rank a u v;
      minimum = λ other s. omega (arith, l.cut.minimum other s, capacity (in_set set), capacity (in_set u), same);
    }) x (omega (arith, bit_below (2 * t.rank) set x within e, rank)) (holds set x e));
  }

  -- the letters of the rank of a set that separates make a cut
  separates_cut : (has : ℕ → Bool) → Separates a (inverse_letter a) has → IsCut t.rank a (mask (2 * t.rank) has)
  separates_cut has s = mask_cut t.rank a has of_rank s.holds s.omits

  to_network : IsLeastCapacityCut t a set → IsLeastCut (cell net.cells) a (inverse_letter a) (in_set set)
  to_network l = record {
    cut = record {
      separates = cut_separates t.rank a set l.valid;
      minimum = λ other s. omega (arith, l.least (mask (2 * t.rank) other) (separates_cut other s), mask_cap t is other, capacity (in_set set), capacity other);
    };
    least = λ other m x h e.
        let same : cap (in_set (mask (2 * t.rank) other)) t ≡ cap (in_set set) t =
        omega (
          arith,
          mask_cap t is other,
          m.minimum (in_set set) (cut_separates t.rank a set l.valid),
          capacity (in_set set),
          capacity other,
          l.least (mask (2 * t.rank) other) (separates_cut other m.separates),
        ) in
        let inside : bit_at (mask (2 * t.rank) other) x ≡ 1 = l.inmost (mask (2 * t.rank) other) (separates_cut other m.separates) same x (holds_back set x e) in
        let low : x < 2 * t.rank = bit_below (2 * t.rank) (mask (2 * t.rank) other) x (mask_lt (2 * t.rank) other) inside in
        sym (mask_has (2 * t.rank) other x low) ∙ holds (mask (2 * t.rank) other) x inside;
  }

pub graph_least_cut : GraphHasTheLeastCuts
graph_least_cut net t a set is rank graph of_rank within = (to_tuple net t is rank graph a set of_rank within, to_network net t is rank graph a set of_rank)

pub graph_flat : GraphTellsFlatness
graph_flat net t a is rank graph of_rank = (
  λ full has s.
      omega (
        arith,
        full (mask (2 * t.rank) has) (mask_cut t.rank a has of_rank s.holds s.omits),
        mask_cap t is has,
        graph_capacity net t has is rank graph,
        graph_degree net t a is rank graph (omega (arith, of_rank, rank)),
      ),
  λ full set v.
      omega (
        arith,
        full (in_set set) (cut_separates t.rank a set v),
        graph_capacity net t (in_set set) is rank graph,
        graph_degree net t a is rank graph (omega (arith, of_rank, rank)),
      ),
)
