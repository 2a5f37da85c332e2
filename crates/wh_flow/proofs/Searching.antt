-- The steps of a search, and what it knows at its end.
use Rattle.std.proofs.Common.{◌≡◌, ◌≢◌, ℕ, ◌-◌, ◌^◌, ◌<◌, ◌≤◌, ◌==◌, bit_and, Bool, true, false, cond, refl, sym, ap, ◌∙◌, subst, inl, inr, arith, List}
use Rattle.std.proofs.lemmas.Bool.{cases_Bool, cases_eq, cases_lt, true≢false, eqb-false}
use Rattle.std.specs.Int.{bit_at}
use Rattle.std.specs.Int.Bits.{mask_lt}
use Rattle.std.proofs.lemmas.Nat.Bits.{bit_at_and, bit_at_ones, bit_at_ones_above, bit_at-lt, same_from_bits}
use Rattle.wh_words.specs.LetterSets.{in_set}
use Rattle.wh_flow.specs.Masks.{IsAllSeen}
use Rattle.wh_flow.specs.Searches.{residual, unseen, Grew, IsSearched, IsSearching}
use Rattle.wh_flow.specs.Masks.{IsMaskOf}
use Rattle.wh_flow.proofs.Sums.{sum-le, sum-less}
use Rattle.wh_flow.proofs.Masks.{mask_has}

-- ---- sets of seen letters
pub grew_fewer : (old new : ℕ) → Grew old new → unseen new ≤ unseen old
grew_fewer old new grew = sum-le 52 (λ x. cond (in_set new x) 0 1) (λ x. cond (in_set old x) 0 1) (λ x h. less (in_set old x) (in_set new x) (grew x))
  where
    less : (a b : Bool) → (a ≡ true → b ≡ true) → cond {A = ℕ} b 0 1 ≤ cond {A = ℕ} a 0 1
    less true true f = omega arith
    less true false f = absurd (true≢false (sym (f refl)))
    less false true f = omega arith
    less false false f = omega arith

-- One letter more was seen at least.
pub searched_fewer : (old new y : ℕ) → y < 52 → in_set old y ≡ false → in_set new y ≡ true → Grew old new → unseen new < unseen old
searched_fewer old new y h n b grew = sum-less 52 y (λ x. cond (in_set new x) 0 1) (λ x. cond (in_set old x) 0 1) h (λ x l. less (in_set old x) (in_set new x) (grew x))
    (omega (arith, ap (λ k. cond {A = ℕ} k 0 1) b, ap (λ k. cond {A = ℕ} k 0 1) n))
  where
    less : (a b : Bool) → (a ≡ true → b ≡ true) → cond {A = ℕ} b 0 1 ≤ cond {A = ℕ} a 0 1
    less true true f = omega arith
    less true false f = absurd (true≢false (sym (f refl)))
    less false true f = omega arith
    less false false f = omega arith

module _ (old new v : ℕ) (same : bit_at new v ≡ 1) (others : (i : ℕ) → i ≢ v → bit_at new i ≡ bit_at old i) where
  pub marked_here : in_set new v ≡ true
  marked_here = ap (λ b. b == 1) same

  pub marked_other : (x : ℕ) → x ≢ v → in_set new x ≡ in_set old x
  marked_other x e = ap (λ b. b == 1) (others x e)

  pub marked_grew : Grew old new
  marked_grew x b = elim (cases_eq x v) [
    | inl k ↦ ap (in_set new) k ∙ marked_here
    | inr k ↦ marked_other x k ∙ b
  ]

  pub marked_fewer : v < 52 → in_set old v ≡ false → unseen new < unseen old
  marked_fewer h n = searched_fewer old new v h n marked_here marked_grew

-- A set of the first k letters is a number below 2 ^ k.
pub small_set : (set k : ℕ) → ((i : ℕ) → k ≤ i → in_set set i ≡ false) → set < 2 ^ k
small_set set k none = subst (λ (m : ℕ). m < 2 ^ k) (sym same) (mask_lt set k)
  where
    bits : (i : ℕ) → bit_at set i ≡ bit_at (bit_and set (2 ^ k - 1)) i
    bits i = elim (cases_lt i k) [
      | inl l ↦ omega (arith, bit_at_and set (2 ^ k - 1) i, bit_at_ones k i l, bit_at-lt set i)
      | inr l ↦ omega (arith, bit_at_and set (2 ^ k - 1) i, bit_at_ones_above k i (omega (arith, l)), bit_at-lt set i, eqb-false (bit_at set i) 1 (none i (omega (arith, l))))
    ]

    same : set ≡ bit_and set (2 ^ k - 1)
    same = same_from_bits set (bit_and set (2 ^ k - 1)) bits

-- ---- the steps of a search
module _ (cap flow : List ℕ) (old : ℕ) (from v t : ℕ) where
  pub searching_starts : (new : ℕ) → bit_at new v ≡ 1 → ((i : ℕ) → i ≢ v → bit_at new i ≡ bit_at old i) → t ≢ v → IsSearching cap flow old new from v t
  searching_starts new same others ne = record {
    start = marked_here old new v same others;
    omits = λ e. marked_other old new v same others t ne ∙ e;
    shut = λ x h e n m z i r. absurd (true≢false (sym m ∙ marked_other old new v same others x e ∙ n));
    least = λ set sv cl x h n m. elim (cases_eq x v) [
      | inl e ↦ ap set e ∙ sv
      | inr e ↦ absurd (true≢false (sym m ∙ marked_other old new v same others x e ∙ n))
    ];
  }

  pub searching_more : (now next : ℕ) (y : ℕ) → v < 52 → y < 52 → IsSearching cap flow old now from v t → 0 < residual cap flow from v y
      → Grew now next → IsSearched cap flow now next from y t → IsSearching cap flow old next from v t
  searching_more now next y lv ly s rm grew q = record {
    start = grew v s.start;
    omits = λ e. q.omits (s.omits e);
    shut = λ x h e n m z i r. elim (cases_Bool (in_set now x)) [
      | inl b ↦ grew z (s.shut x h e n b z i r)
      | inr b ↦ q.shut x h b m z i r
    ];
    least = λ set sv cl x h n m. elim (cases_Bool (in_set now x)) [
      | inl b ↦ s.least set sv cl x h n b
      | inr b ↦ q.least set (cl v y lv ly sv rm) cl x h b m
    ];
  }

  -- All letters to which residual edges lead from v were seen.
  pub searching_ends : (now successors : ℕ) → IsMaskOf successors (residual cap flow from v) → IsAllSeen successors now → IsSearching cap flow old now from v t → IsSearched cap flow old now from v t
  searching_ends now successors has all s = record {
    start = s.start;
    omits = s.omits;
    shut = λ x h n m z i r. elim (cases_eq x v) [
      | inl e ↦ all z (omega (arith, i)) (mask_has successors (residual cap flow from v) z has i (subst (λ (k : ℕ). 0 < residual cap flow from k z) e r))
      | inr e ↦ s.shut x h e n m z i r
    ];
    least = s.least;
  }
