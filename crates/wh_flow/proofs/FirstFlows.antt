-- The first flow of a value: each number in turn is the least that the numbers before it allow.
use Rattle.std.proofs.Common.{◌≡◌, ℕ, zero, suc, ◌+◌, ◌/◌, ◌%◌, ◌<◌, ◌≤◌, Bool, true, false, sym, ap, ◌∙◌, subst, inl, inr, ◌⊎◌, arith}
use Rattle.std.proofs.lemmas.Bool.{cases_eq, cases_lt, true≢false}
use Rattle.wh_words.specs.Flows.{IsFlow, IsWithin, HaveOneValue, place, AgreeBefore, IsBefore, IsFirstFlow}
use Rattle.wh_flow.specs.Rerouting.{HaveOneNetFlow, IsClosedFrom, IsFirstUpTo}
use Rattle.wh_flow.proofs.SetSums.{capacity-le, capacity-less}
use Rattle.wh_flow.proofs.Cells.{place-same}
use Rattle.wh_flow.proofs.Cuts.{one-net-flow, balance}
use Rattle.wh_flow.specs.Tables.{pair_count}

module _ (c f : ℕ → ℕ → ℕ) where
  -- A set that no residual edge after the pair leaves, with the first letter of the pair and not the second.
  pub stuck : (g : ℕ → ℕ → ℕ) (x y : ℕ) (set : ℕ → Bool) → IsWithin c g → HaveOneNetFlow f g → x < 52 → y < 52 → set x ≡ true → set y ≡ false
      → IsClosedFrom (place x y + 1) c f set → AgreeBefore (place x y) f g → f x y ≤ g x y
  stuck g x y set gw nets h i p q cl ag = elim (cases_lt (g x y) (f x y)) [
    | inl less ↦ absurd (omega (
      arith,
      balance f g set nets,
      capacity-less g f set (λ u w j k a b. there less u w j k a b) x y h i p q less,
      capacity-le (λ u w. f w u) (λ u w. g w u) set (λ u w j k a b. back u w j k a b),
    ))
    | inr more ↦ omega (arith, more)
  ]
    where
      there : g x y < f x y → (u w : ℕ) → u < 52 → w < 52 → set u ≡ true → set w ≡ false → g u w ≤ f u w
      there less u w j k a b = elim (cases_lt (place u w) (place x y)) [
        | inl before ↦ omega (arith, ag u w j k before)
        | inr after ↦ elim (cases_eq (place u w) (place x y)) [
          | inl e ↦ (let same : (u ≡ x) × (w ≡ y) = place-same u w x y (omega arith) (omega arith) e in
              omega (arith, less, ap (λ m. g m w) same.0, ap (λ m. g x m) same.1, ap (λ m. f m w) same.0, ap (λ m. f x m) same.1))
          | inr e ↦ omega (arith, gw u w j k, cl.full u w j k a b (omega (arith, after, e)))
        ]
      ]

      back : (u w : ℕ) → u < 52 → w < 52 → set u ≡ true → set w ≡ false → f w u ≤ g w u
      back u w j k a b = elim (cases_lt (place w u) (place x y)) [
        | inl before ↦ omega (arith, ag w u k j before)
        | inr after ↦ elim (cases_eq (place w u) (place x y)) [
          | inl e ↦ (let same : (w ≡ x) × (u ≡ y) = place-same w u x y (omega arith) (omega arith) e in
              absurd (true≢false (sym p ∙ sym (ap set same.0) ∙ b)))
          | inr e ↦ omega (arith, cl.empty u w j k a b (omega (arith, after, e)))
        ]
      ]

  -- The next pair.
  pub first-more : (x y : ℕ) → x < 52 → y < 52 → IsFirstUpTo (place x y) c f
      → ((g : ℕ → ℕ → ℕ) → IsWithin c g → HaveOneNetFlow f g → AgreeBefore (place x y) f g → f x y ≤ g x y) → IsFirstUpTo (place x y + 1) c f
  first-more x y h i before here g gw nets u w j k l ag = elim (cases_eq (place u w) (place x y)) [
    | inl e ↦ (let same : (u ≡ x) × (w ≡ y) = place-same u w x y (omega arith) (omega arith) e in
        omega (arith, here g gw nets (λ a b m o r. ag a b m o (omega (arith, r, e))), ap (λ m. g m w) same.0, ap (λ m. g x m) same.1, ap (λ m. f m w) same.0, ap (λ m. f x m) same.1))
    | inr e ↦ before g gw nets u w j k (omega (arith, l, e)) ag
  ]

  -- A table that is the same before the place, with the same net outflows, is as good.
  pub first-kept : (h : ℕ → ℕ → ℕ) (k : ℕ) → IsFirstUpTo k c f → HaveOneNetFlow f h → AgreeBefore k f h → IsFirstUpTo k c h
  first-kept h k fi nets ag g gw hg x y i j l a =
      omega (
        arith,
        ag x y i j l,
        fi g gw (λ v m. omega (arith, nets v m, hg v m)) x y i j l (λ u w m o r. ag u w m o (omega (arith, l, r)) ∙ a u w m o r),
      )

  pub is-first : (s t : ℕ) → t < 52 → IsFlow c f s t → IsFirstUpTo pair_count c f → IsFirstFlow c f s t
  is-first s t l fl fi = record {
    flow = fl;
    first = λ g gl w x y h i ag. fi g gl.within (one-net-flow c f g s t l fl gl w) x y h i (omega (arith, h, i)) ag;
  }

-- Two tables agree up to a place, or the one comes before the other.
pub compared : (f g : ℕ → ℕ → ℕ) → ((x y : ℕ) → x < 52 → y < 52 → AgreeBefore (place x y) f g → f x y ≤ g x y) → (k : ℕ) → AgreeBefore k f g ⊎ IsBefore f g
compared f g le zero = inl (λ x y h i l. absurd (omega (arith, l)))
compared f g le (suc k) = next (compared f g le k)
  where
    there : place (k / 52) (k % 52) ≡ k
    there = omega arith

    more : AgreeBefore k f g → ((u w : ℕ) → u < 52 → w < 52 → place u w ≡ k → f u w ≡ g u w) → AgreeBefore (suc k) f g
    more ag same u w h i l = elim (cases_eq (place u w) k) [
      | inl e ↦ same u w h i e
      | inr e ↦ ag u w h i (omega (arith, l, e))
    ]

    is : (u w : ℕ) → w < 52 → place u w ≡ k → (u ≡ k / 52) × (w ≡ k % 52)
    is u w i e = (omega (arith, e, i), omega (arith, e, i))

    same_there : f (k / 52) (k % 52) ≡ g (k / 52) (k % 52) → (u w : ℕ) → u < 52 → w < 52 → place u w ≡ k → f u w ≡ g u w
    same_there e u w h i p = ap (λ m. f m w) (is u w i p).0 ∙ ap (λ m. f (k / 52) m) (is u w i p).1 ∙ e ∙ sym (ap (λ m. g (k / 52) m) (is u w i p).1) ∙ sym (ap (λ m. g m w) (is u w i p).0)

    next : AgreeBefore k f g ⊎ IsBefore f g → AgreeBefore (suc k) f g ⊎ IsBefore f g
    next (inr b) = inr b
    next (inl ag) = elim (cases_lt (k / 52) 52) [
      | inr far ↦ inl (more ag (λ u w h i e. absurd (omega (arith, far, h, (is u w i e).0))))
      | inl near ↦ elim (cases_lt (k % 52) 52) [
        | inr far ↦ inl (more ag (λ u w h i e. absurd (omega (arith, far, i, (is u w i e).1))))
        | inl close ↦ (let ahead : AgreeBefore (place (k / 52) (k % 52)) f g = subst (λ (j : ℕ). AgreeBefore j f g) (sym there) ag in
            elim (cases_eq (f (k / 52) (k % 52)) (g (k / 52) (k % 52))) [
              | inl e ↦ inl (more ag (same_there e))
              | inr e ↦ inr (record { x = k / 52; y = k % 52; x_within = near; y_within = close; agree = ahead; less = omega (arith, e, le (k / 52) (k % 52) near close ahead) })
            ])
      ]
    ]

-- The first flow of a value comes before each other flow of it, or is the same.
pub first-before : (c f : ℕ → ℕ → ℕ) (s t : ℕ) → IsFirstFlow c f s t → (g : ℕ → ℕ → ℕ) → IsFlow c g s t → HaveOneValue f g s
    → ((x y : ℕ) → x < 52 → y < 52 → f x y ≡ g x y) ⊎ IsBefore f g
first-before c f s t fi g gl w = elim (compared f g (λ x y h i ag. fi.first g gl w x y h i ag) pair_count) [
  | inl ag ↦ inl (λ x y h i. ag x y h i (omega (arith, h, i)))
  | inr b ↦ inr b
]

-- There is one first flow of a value.
pub first-one : (c f g : ℕ → ℕ → ℕ) (s t : ℕ) → IsFirstFlow c f s t → IsFirstFlow c g s t → HaveOneValue f g s → (x y : ℕ) → x < 52 → y < 52 → f x y ≡ g x y
first-one c f g s t fi gi w = elim (first-before c f s t fi g gi.flow w) [
  | inl e ↦ e
  | inr b ↦ absurd (omega (arith, b.less, gi.first f fi.flow (sym w) b.x b.y b.x_within b.y_within (λ u v h i l. sym (b.agree u v h i l))))
]
