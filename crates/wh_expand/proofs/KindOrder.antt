-- The order of kinds of moves, and which kind of a rank follows another.
use Rattle.std.proofs.Common.{◌≡◌, ℕ, ◌+◌, ◌*◌, ◌^◌, ◌<◌, ◌≤◌, refl, sym, ap, ◌∙◌, inl, inr, ◌⊎◌, arith}
use Rattle.std.specs.Ordering.{nat_cmp, ordering_then}
use Rattle.std.specs.declared.cmp.Ordering.{Ordering}
use Rattle.std.specs.declared.cmp.Ordering.TheVariants.{Less, Equal, Greater}
use Rattle.std.specs.Cmp.{nat_cmp_is}
use Rattle.std.proofs.lemmas.Bool.{cases_lt, cases_eq}
use Rattle.std.proofs.lemmas.Cmp.{ranked}
use Rattle.wh_words.specs.Moves.{Kind, IsKind, kind_cmp}
use Rattle.wh_words.specs.Moves.Kind.{swap, invert, cut}
use Rattle.wh_moves.proofs.PackedOrder.{less_is}

pub less_from : (x y : ℕ) → nat_cmp x y ≡ Less → x < y
less_from x y e = ranked x y Less (sym e)

same_to : (x y : ℕ) → x ≡ y → nat_cmp x y ≡ Equal
same_to x y h = sym (nat_cmp_is x y Equal h)

-- ---- cuts
pub cut_to : (a s b u : ℕ) → (a < b) ⊎ ((a ≡ b) × (s < u)) → kind_cmp (cut a s) (cut b u) ≡ Less
cut_to a s b u (inl h) = ap (λ (o : Ordering). ordering_then o (nat_cmp s u)) (less_is a b h)
cut_to a s b u (inr h) = ap (λ (o : Ordering). ordering_then o (nat_cmp s u)) (same_to a b h.0) ∙ less_is s u h.1

pub cut_from : (a s b u : ℕ) → kind_cmp (cut a s) (cut b u) ≡ Less → (a < b) ⊎ ((a ≡ b) × (s < u))
cut_from a s b u e = elim (cases_lt a b) [
  | inl h ↦ inl h
  | inr h ↦ elim (cases_eq a b) [
    | inl q ↦ inr (q, less_from s u (sym (ap (λ (o : Ordering). ordering_then o (nat_cmp s u)) (same_to a b q)) ∙ e))
    | inr n ↦
        let more : nat_cmp a b ≡ Greater = sym (nat_cmp_is a b Greater (omega (arith, h, n))) in
        let not : Greater ≡ Less = sym (ap (λ (o : Ordering). ordering_then o (nat_cmp s u)) more) ∙ e in
        absurd (cc not)
  ]
]

-- ---- the next kind
-- Of the kinds of rank n just those before b, and b itself, come before c.
pub record Follows (n : ℕ) (b c : Kind) : Type 0 where
  pub back : (k : Kind) → IsKind n k → kind_cmp k c ≡ Less → (kind_cmp k b ≡ Less) ⊎ (k ≡ b)
  pub on : (k : Kind) → kind_cmp k b ≡ Less → kind_cmp k c ≡ Less
  pub here : kind_cmp b c ≡ Less

next_number : (j k : ℕ) → nat_cmp j (k + 1) ≡ Less → (nat_cmp j k ≡ Less) ⊎ (j ≡ k)
next_number j k e = let l : j < k + 1 = less_from j (k + 1) e in elim (cases_lt j k) [
  | inl h ↦ inl (less_is j k h)
  | inr h ↦ inr (omega (arith, l, h))
]

on_number : (j k : ℕ) → nat_cmp j k ≡ Less → nat_cmp j (k + 1) ≡ Less
on_number j k e = less_is j (k + 1) (omega (arith, less_from j k e))

swap_back : (n k : ℕ) (j : Kind) → IsKind n j → kind_cmp j (swap (k + 1)) ≡ Less → (kind_cmp j (swap k) ≡ Less) ⊎ (j ≡ swap k)
swap_back n k (swap j) v e = elim (next_number j k e) [ inl h ↦ inl h | inr q ↦ inr (ap swap q) ]
swap_back n k (invert j) v e = inl e
swap_back n k (cut a s) v e = inl e

swap_on : (k : ℕ) (j : Kind) → kind_cmp j (swap k) ≡ Less → kind_cmp j (swap (k + 1)) ≡ Less
swap_on k (swap j) e = on_number j k e
swap_on k (invert j) e = e
swap_on k (cut a s) e = e

pub next_swap : (n k : ℕ) → Follows n (swap k) (swap (k + 1))
next_swap n k = record { back = swap_back n k; on = swap_on k; here = less_is k (k + 1) (omega arith) }

swaps_back : (n k : ℕ) → n ≤ k → (j : Kind) → IsKind n j → kind_cmp j (invert 1) ≡ Less → (kind_cmp j (swap k) ≡ Less) ⊎ (j ≡ swap k)
swaps_back n k h (swap j) v e = inl (less_is j k (omega (arith, v.1, h)))
swaps_back n k h (invert j) v e = absurd (omega (arith, v.0, less_from j 1 e))
swaps_back n k h (cut a s) v e = absurd (cc e)

swaps_on : (k : ℕ) (j : Kind) → kind_cmp j (swap k) ≡ Less → kind_cmp j (invert 1) ≡ Less
swaps_on k (swap j) e = refl
swaps_on k (invert j) e = absurd (cc e)
swaps_on k (cut a s) e = absurd (cc e)

-- After the swaps come the inversions.
pub after_swaps : (n k : ℕ) → n ≤ k → Follows n (swap k) (invert 1)
after_swaps n k h = record { back = swaps_back n k h; on = swaps_on k; here = refl }

invert_back : (n k : ℕ) (j : Kind) → IsKind n j → kind_cmp j (invert (k + 1)) ≡ Less → (kind_cmp j (invert k) ≡ Less) ⊎ (j ≡ invert k)
invert_back n k (swap j) v e = inl refl
invert_back n k (invert j) v e = elim (next_number j k e) [ inl h ↦ inl h | inr q ↦ inr (ap invert q) ]
invert_back n k (cut a s) v e = inl e

invert_on : (k : ℕ) (j : Kind) → kind_cmp j (invert k) ≡ Less → kind_cmp j (invert (k + 1)) ≡ Less
invert_on k (swap j) e = refl
invert_on k (invert j) e = on_number j k e
invert_on k (cut a s) e = e

pub next_invert : (n k : ℕ) → Follows n (invert k) (invert (k + 1))
next_invert n k = record { back = invert_back n k; on = invert_on k; here = less_is k (k + 1) (omega arith) }

inverts_back : (n k : ℕ) → n < k → (j : Kind) → IsKind n j → kind_cmp j (cut 0 0) ≡ Less → (kind_cmp j (invert k) ≡ Less) ⊎ (j ≡ invert k)
inverts_back n k h (swap j) v e = inl refl
inverts_back n k h (invert j) v e = inl (less_is j k (omega (arith, v.1, h)))
inverts_back n k h (cut a s) v e = absurd (elim (cut_from a s 0 0 e) [ inl l ↦ omega (arith, l) | inr l ↦ omega (arith, l.1) ])

inverts_on : (k : ℕ) (j : Kind) → kind_cmp j (invert k) ≡ Less → kind_cmp j (cut 0 0) ≡ Less
inverts_on k (swap j) e = refl
inverts_on k (invert j) e = refl
inverts_on k (cut a s) e = absurd (cc e)

-- After the inversions come the cuts.
pub after_inversions : (n k : ℕ) → n < k → Follows n (invert k) (cut 0 0)
after_inversions n k h = record { back = inverts_back n k h; on = inverts_on k; here = refl }

cut_back : (n a s : ℕ) (j : Kind) → IsKind n j → kind_cmp j (cut a (s + 1)) ≡ Less → (kind_cmp j (cut a s) ≡ Less) ⊎ (j ≡ cut a s)
cut_back n a s (swap j) v e = inl refl
cut_back n a s (invert j) v e = inl refl
cut_back n a s (cut b u) v e = elim (cut_from b u a (s + 1) e) [
  | inl l ↦ inl (cut_to b u a s (inl l))
  | inr p ↦ elim (cases_lt u s) [
    | inl l ↦ inl (cut_to b u a s (inr (p.0, l)))
    | inr h ↦
        let same : u ≡ s = omega (arith, h, p.1) in
        inr (ap (λ z. cut z u) p.0 ∙ ap (cut a) same)
  ]
]

cut_on : (a s b u : ℕ) → (a < b) ⊎ ((a ≡ b) × (s < u)) → (j : Kind) → kind_cmp j (cut a s) ≡ Less → kind_cmp j (cut b u) ≡ Less
cut_on a s b u h (swap j) e = refl
cut_on a s b u h (invert j) e = refl
cut_on a s b u h (cut x y) e = elim (cut_from x y a s e) [
  | inl l ↦ elim h [
    | inl m ↦ cut_to x y b u (inl (omega (arith, l, m)))
    | inr m ↦ cut_to x y b u (inl (omega (arith, l, m.0)))
  ]
  | inr l ↦ elim h [
    | inl m ↦ cut_to x y b u (inl (omega (arith, l.0, m)))
    | inr m ↦ cut_to x y b u (inr (l.0 ∙ m.0, omega (arith, l.1, m.1)))
  ]
]

pub next_cut : (n a s : ℕ) → Follows n (cut a s) (cut a (s + 1))
next_cut n a s = record {
  back = cut_back n a s;
  on = cut_on a s a (s + 1) (inr (refl, omega arith));
  here = cut_to a s a (s + 1) (inr (refl, omega arith));
}

cuts_back : (n a s : ℕ) → 2 ^ (2 * n) ≤ s → (j : Kind) → IsKind n j → kind_cmp j (cut (a + 1) 0) ≡ Less → (kind_cmp j (cut a s) ≡ Less) ⊎ (j ≡ cut a s)
cuts_back n a s h (swap j) v e = inl refl
cuts_back n a s h (invert j) v e = inl refl
cuts_back n a s h (cut b u) v e = elim (cut_from b u (a + 1) 0 e) [
  | inl l ↦ elim (cases_lt b a) [
    | inl m ↦ inl (cut_to b u a s (inl m))
    | inr m ↦ inl (cut_to b u a s (inr (omega (arith, l, m), omega (arith, v.within, h))))
  ]
  | inr p ↦ absurd (omega (arith, p.1))
]

-- After the cuts with one multiplier come those with the next.
pub after_multiplier : (n a s : ℕ) → 2 ^ (2 * n) ≤ s → Follows n (cut a s) (cut (a + 1) 0)
after_multiplier n a s h = record {
  back = cuts_back n a s h;
  on = cut_on a s (a + 1) 0 (inl (omega arith));
  here = cut_to a s (a + 1) 0 (inl (omega arith));
}

-- No kind of a rank comes before the first swap.
pub none_before : (n : ℕ) (k : Kind) → IsKind n k → kind_cmp k (swap 1) ≡ Less → ⊥
none_before n (swap j) v e = omega (arith, v.0, less_from j 1 e)
none_before n (invert j) v e = cc e
none_before n (cut a s) v e = cc e

-- Every kind of a rank comes before the cuts with a multiplier past it.
pub all_before : (n a : ℕ) → 2 * n ≤ a → (k : Kind) → IsKind n k → kind_cmp k (cut a 0) ≡ Less
all_before n a h (swap j) v = refl
all_before n a h (invert j) v = refl
all_before n a h (cut b u) v = cut_to b u a 0 (inl (omega (arith, v.of_rank, h)))
