-- Max-flow and min-cut: no flow has a greater value than the capacity of a set that separates, and one that leaves no residual edge out of the set has just that value.
use Rattle.std.proofs.Common.{◌≡◌, ◌≢◌, ℕ, ◌+◌, ◌<◌, ◌≤◌, Bool, true, false, refl, sym, ap, ◌∙◌, subst, inl, inr, ◌↔◌, arith}
use Rattle.std.proofs.lemmas.Bool.{cases_Bool, cases_eq, true≢false}
use Rattle.wh_words.specs.Flows.{sum_below, where_in, outflow, inflow, capacity_of_set, IsFlow, Separates, IsClosed, HasValue, IsMaximum, IsLeastCut, HaveOneValue, FillsLeastCut, IsMinimumCut, degree}
use Rattle.wh_flow.specs.Rerouting.{HaveOneNetFlow}
use Rattle.wh_flow.proofs.Sums.{sum-same, sum-le, sum-add, sum-swap, sum-at, sum-rest}
use Rattle.wh_flow.proofs.SetSums.{where-add, out-split, in-split, capacity-same, capacity-le, capacity-less, capacity-zero}

module _ (f : ℕ → ℕ → ℕ) (set : ℕ → Bool) where
  -- What leaves the set less what comes back is the value.
  pub crossing : (c : ℕ → ℕ → ℕ) (s t : ℕ) → s < 52 → IsFlow c f s t → Separates s t set → capacity_of_set f set + inflow f s ≡ capacity_of_set (λ x y. f y x) set + outflow f s
  crossing c s t l fl sep =
      let kept : sum_below 52 (λ x. where_in (set x) (outflow f x)) + where_in (set s) (inflow f s) ≡ sum_below 52 (λ x. where_in (set x) (inflow f x)) + where_in (set s) (outflow f s) =
      sum-at 52 s (λ x. where_in (set x) (outflow f x)) (λ x. where_in (set x) (inflow f x)) l (λ k h q. at_other k h q) in
      omega (arith, kept, out-split f set, in-split f set, ap (λ b. where_in b (outflow f s)) sep.holds, ap (λ b. where_in b (inflow f s)) sep.holds)
    where
      at_other : (k : ℕ) → k < 52 → k ≢ s → where_in (set k) (outflow f k) ≡ where_in (set k) (inflow f k)
      at_other k h q = elim (cases_Bool (set k)) [
        | inl b ↦ ap (where_in (set k)) (fl.conserved k h q (λ e. true≢false (sym b ∙ ap set e ∙ sep.omits)))
        | inr b ↦ ap (λ i. where_in i (outflow f k)) b ∙ sym (ap (λ i. where_in i (inflow f k)) b)
      ]

  pub at-most : (c : ℕ → ℕ → ℕ) (s t : ℕ) → s < 52 → IsFlow c f s t → Separates s t set → outflow f s ≤ inflow f s + capacity_of_set c set
  at-most c s t l fl sep = omega (arith, crossing c s t l fl sep, capacity-le f c set (λ x y h i p q. fl.within x y h i))

  pub is-full : (c : ℕ → ℕ → ℕ) (s t : ℕ) → s < 52 → IsFlow c f s t → Separates s t set → IsClosed c f set → outflow f s ≡ inflow f s + capacity_of_set c set
  is-full c s t l fl sep cl =
      let full : capacity_of_set c set ≤ capacity_of_set f set = capacity-le c f set (λ x y h i p q. cl.full x y h i p q) in
      let empty : capacity_of_set (λ x y. f y x) set ≡ 0 = capacity-same (λ x y. f y x) (λ _ _. 0) set (λ x y h i p q. cl.empty x y h i p q) ∙ capacity-zero set in
      omega (arith, crossing c s t l fl sep, full, empty, at-most c s t l fl sep)

  -- A flow with the value of a set's capacity leaves no residual edge out of it.
  pub full-closed : (c : ℕ → ℕ → ℕ) (s t : ℕ) → s < 52 → IsFlow c f s t → Separates s t set → inflow f s + capacity_of_set c set ≤ outflow f s → IsClosed c f set
  full-closed c s t l fl sep v = record {
    full = λ x y h i p q. elim (cases_eq (f x y) (c x y)) [
      | inl e ↦ omega (arith, e)
      | inr e ↦ absurd (omega (
        arith,
        v,
        crossing c s t l fl sep,
        capacity-less f c set (λ u w j k _ _. fl.within u w j k) x y h i p q (omega (arith, e, fl.within x y h i)),
      ))
    ];
    empty = λ x y h i p q. elim (cases_eq (f y x) 0) [
      | inl e ↦ e
      | inr e ↦ absurd (omega (
        arith,
        v,
        crossing c s t l fl sep,
        capacity-le f c set (λ u w j k _ _. fl.within u w j k),
        capacity-zero set,
        capacity-less (λ _ _. 0) (λ u w. f w u) set (λ u w j k _ _. omega arith) x y h i p q (omega (arith, e)),
      ))
    ];
  }

-- A closed set that separates proves the flow greatest.
pub closed-maximum : (c f : ℕ → ℕ → ℕ) (set : ℕ → Bool) (s t : ℕ) → s < 52 → IsFlow c f s t → Separates s t set → IsClosed c f set → IsMaximum c f s t
closed-maximum c f set s t l fl sep cl g gl = omega (arith, is-full f set c s t l fl sep cl, at-most g set c s t l gl sep)

-- The closed set that lies in all closed sets is the least cut.
pub least-cut : (c f : ℕ → ℕ → ℕ) (set : ℕ → Bool) (s t : ℕ) → s < 52 → IsFlow c f s t → Separates s t set → IsClosed c f set
    → ((other : ℕ → Bool) → other s ≡ true → IsClosed c f other → (x : ℕ) → x < 52 → set x ≡ true → other x ≡ true) → IsLeastCut c s t set
least-cut c f set s t l fl sep cl in_all = record {
  cut = record { separates = sep; minimum = λ other o. omega (arith, is-full f set c s t l fl sep cl, at-most f other c s t l fl o) };
  least = λ other o x i p. in_all other o.separates.holds (full-closed f other c s t l fl o.separates (omega (arith, o.minimum set sep, is-full f set c s t l fl sep cl))) x i p;
}

-- Two flows of one value have one net flow.
pub one-net-flow : (c f g : ℕ → ℕ → ℕ) (s t : ℕ) → t < 52 → IsFlow c f s t → IsFlow c g s t → HaveOneValue f g s → HaveOneNetFlow f g
one-net-flow c f g s t l fl gl w v h = elim (cases_eq v t) [
  | inl e ↦ subst (λ (k : ℕ). outflow f k + inflow g k ≡ outflow g k + inflow f k) (sym e) last
  | inr e ↦ elsewhere v h e
]
  where
    elsewhere : (k : ℕ) → k < 52 → k ≢ t → outflow f k + inflow g k ≡ outflow g k + inflow f k
    elsewhere k i d = elim (cases_eq k s) [
      | inl e ↦ subst (λ (j : ℕ). outflow f j + inflow g j ≡ outflow g j + inflow f j) (sym e) w
      | inr e ↦ omega (arith, fl.conserved k i e d, gl.conserved k i e d)
    ]

    last : outflow f t + inflow g t ≡ outflow g t + inflow f t
    last = sum-rest 52 t (λ k. outflow f k + inflow g k) (λ k. outflow g k + inflow f k) l elsewhere
        (omega (arith, sum-add 52 (λ k. outflow f k) (λ k. inflow g k), sum-add 52 (λ k. outflow g k) (λ k. inflow f k), sum-swap 52 52 f, sum-swap 52 52 g))

-- What leaves the set less what comes back depends on the net flow alone.
pub balance : (f g : ℕ → ℕ → ℕ) (set : ℕ → Bool) → HaveOneNetFlow f g → capacity_of_set f set + capacity_of_set (λ x y. g y x) set ≡ capacity_of_set g set + capacity_of_set (λ x y. f y x) set
balance f g set e =
    let both : sum_below 52 (λ x. where_in (set x) (outflow f x) + where_in (set x) (inflow g x)) ≡ sum_below 52 (λ x. where_in (set x) (outflow g x) + where_in (set x) (inflow f x)) =
    sum-same 52 (λ x. where_in (set x) (outflow f x) + where_in (set x) (inflow g x)) (λ x. where_in (set x) (outflow g x) + where_in (set x) (inflow f x))
    (λ x h. sym (where-add (set x) (outflow f x) (inflow g x)) ∙ ap (where_in (set x)) (e x h) ∙ where-add (set x) (outflow g x) (inflow f x)) in
    omega (
      arith,
      both,
      out-split f set,
      in-split f set,
      out-split g set,
      in-split g set,
      sum-add 52 (λ x. where_in (set x) (outflow f x)) (λ x. where_in (set x) (inflow g x)),
      sum-add 52 (λ x. where_in (set x) (outflow g x)) (λ x. where_in (set x) (inflow f x)),
    )

-- The minimum cuts are the closed sets that separate.
pub minimum_closed : (c f : ℕ → ℕ → ℕ) (s t : ℕ) → s < 52 → IsFlow c f s t → FillsLeastCut c f s t → (set : ℕ → Bool) → IsMinimumCut c s t set ↔ (Separates s t set × IsClosed c f set)
minimum_closed c f s t l fl filled set = (
  (λ m. (m.separates, full-closed f set c s t l fl m.separates (omega (arith, filled.value, m.minimum filled.set filled.cut.cut.separates)))),
  (λ p. record { separates = p.0; minimum = λ o so. omega (arith, is-full f set c s t l fl p.0 p.1, at-most f o c s t l fl so) }),
)

-- A flow that fills a least cut is greatest.
pub filled_maximum : (c f : ℕ → ℕ → ℕ) (s t : ℕ) → s < 52 → FillsLeastCut c f s t → IsMaximum c f s t
filled_maximum c f s t l cut g gl = omega (arith, cut.value, at-most g cut.set c s t l gl cut.cut.cut.separates)

-- Two least cuts have the same letters.
pub least_cut_one : (c : ℕ → ℕ → ℕ) (s t : ℕ) (a b : ℕ → Bool) → IsLeastCut c s t a → IsLeastCut c s t b → (x : ℕ) → x < 52 → a x ≡ b x
least_cut_one c s t a b p q x h = same (a x) (b x) (p.least b q.cut x h) (q.least a p.cut x h)
  where
    same : (u v : Bool) → (u ≡ true → v ≡ true) → (v ≡ true → u ≡ true) → u ≡ v
    same true v i j = sym (i refl)
    same false true i j = j refl
    same false false i j = refl

-- The greatest value is the degree of s just where no set that separates has less capacity.
pub value_degree : (c f : ℕ → ℕ → ℕ) (s t : ℕ) → s < 52 → IsFlow c f s t → FillsLeastCut c f s t
    → HasValue f s (degree c s) ↔ ((other : ℕ → Bool) → Separates s t other → degree c s ≤ capacity_of_set c other)
value_degree c f s t l fl cut = (
  (λ v other so. omega (arith, v, at-most f other c s t l fl so)),
  (λ h. omega (arith, cut.value, h cut.set cut.cut.cut.separates, sum-le 52 (λ y. f s y) (λ y. c s y) (λ y i. fl.within s y l i), at-most f cut.set c s t l fl cut.cut.cut.separates)),
)
