-- Which moves keep the length of a tuple.
use Rattle.std.proofs.Common.{◌≡◌, ◌≢◌, ℕ, ◌^◌, ◌<◌, ◌≤◌, refl, sym, ap, ◌∙◌, subst, arith}
use Rattle.wh_words.specs.LetterSets.{in_set}
use Rattle.wh_words.specs.Tuples.{TupleData, IsTuple}
use Rattle.wh_words.specs.Moves.{Move, IsCut, IsIdentityCut, cut_move}
use Rattle.wh_words.specs.Moves.Kind.{swap, invert}
use Rattle.wh_words.specs.Levels.{IsLevelMove}
use Rattle.wh_words.specs.Edges.{cap, deg}
use Rattle.wh_graph.proofs.Lengths.{length_law, swaps_keep, inversions_keep}

module _ (t : TupleData) (is : IsTuple t) (rank : t.rank ≤ 26) where
  swap_level : (k : ℕ) → 0 < k → k < t.rank → IsLevelMove t (record { rank = t.rank; kind = swap k })
  swap_level k h l = record {
    valid = record { rank = rank; kind = (h, l) };
    rank = refl;
    kept = swaps_keep t k t.rank is (h, l);
    moves = λ e. e;
  }

  invert_level : (k : ℕ) → 0 < k → k ≤ t.rank → IsLevelMove t (record { rank = t.rank; kind = invert k })
  invert_level k h l = record {
    valid = record { rank = rank; kind = (h, l) };
    rank = refl;
    kept = inversions_keep t k t.rank is (h, l);
    moves = λ e. e;
  }

  -- A cut keeps the length where its set has the degree of the multiplier as its capacity.
  cut_level : (a set : ℕ) → IsCut t.rank a set → cap (in_set set) t ≡ deg a t → set ≢ 2 ^ a → IsLevelMove t (cut_move t.rank a set)
  cut_level a set v e n = record {
    valid = record { rank = rank; kind = v };
    rank = refl;
    kept = omega (arith, e, length_law t a set is v);
    moves = n;
  }

-- The set of a cut that keeps the length has that capacity.
pub level_cut : (t : TupleData) → IsTuple t → (a set : ℕ) → IsLevelMove t (cut_move t.rank a set) → cap (in_set set) t ≡ deg a t
level_cut t is a set m = omega (arith, m.kept, length_law t a set is m.valid.kind)

-- ---- moves as they are made, of a number that is the rank of the tuple
module _ (t : TupleData) (is : IsTuple t) (n : ℕ) (same : n ≡ t.rank) (rank : t.rank ≤ 26) (m : Move) where
  pub made_swap_level : (k : ℕ) → m ≡ record { rank = n; kind = swap k } → 0 < k → k < n → IsLevelMove t m
  made_swap_level k e h l =
      subst (IsLevelMove t) (sym (e ∙ ap (λ (r : ℕ). record { rank = r; kind = swap k }) same)) (swap_level t is rank k h (omega (arith, l, same)))

  pub made_invert_level : (k : ℕ) → m ≡ record { rank = n; kind = invert k } → 0 < k → k ≤ n → IsLevelMove t m
  made_invert_level k e h l =
      subst (IsLevelMove t) (sym (e ∙ ap (λ (r : ℕ). record { rank = r; kind = invert k }) same)) (invert_level t is rank k h (omega (arith, l, same)))

  pub made_cut_level : (a set : ℕ) → m ≡ cut_move n a set → IsCut n a set → cap (in_set set) t ≡ deg a t → ¬ (IsIdentityCut m.kind) → IsLevelMove t m
  made_cut_level a set e v keeps moves =
      let own : m ≡ cut_move t.rank a set = e ∙ ap (λ (r : ℕ). cut_move r a set) same in
      subst (IsLevelMove t) (sym own)
      (cut_level t is rank a set (subst (λ (r : ℕ). IsCut r a set) same v) keeps (λ q. moves (subst (λ (k : Move). IsIdentityCut k.kind) (sym own) q)))
