-- Sums over a set of letters, and the capacity of a set.
use Rattle.std.proofs.Common.{◌≡◌, ℕ, ◌+◌, ◌<◌, ◌≤◌, Bool, true, false, not, refl, sym, ap, ◌∙◌, subst, arith}
use Rattle.wh_words.specs.Flows.{sum_below, where_in, outflow, inflow, capacity_of_set}
use Rattle.wh_flow.proofs.Sums.{sum-same, sum-le, sum-add, sum-zero, sum-swap, sum-less}

-- A sum splits at a set.
split : (set : ℕ → Bool) (f : ℕ → ℕ) → sum_below 52 f ≡ sum_below 52 (λ y. where_in (set y) (f y)) + sum_below 52 (λ y. where_in (not (set y)) (f y))
split set f = sum-same 52 f (λ y. where_in (set y) (f y) + where_in (not (set y)) (f y)) (λ k h. halves (set k) (f k)) ∙ sum-add 52 (λ y. where_in (set y) (f y)) (λ y. where_in (not (set y)) (f y))
  where
    halves : (b : Bool) (v : ℕ) → v ≡ where_in b v + where_in (not b) v
    halves true v = omega arith
    halves false v = omega arith

pub where-zero : (b : Bool) → where_in b 0 ≡ 0
where-zero true = refl
where-zero false = refl

pub where-add : (b : Bool) (u v : ℕ) → where_in b (u + v) ≡ where_in b u + where_in b v
where-add true u v = refl
where-add false u v = omega arith

where-sum : (b : Bool) (n : ℕ) (f : ℕ → ℕ) → where_in b (sum_below n f) ≡ sum_below n (λ y. where_in b (f y))
where-sum true n f = refl
where-sum false n f = sym (sum-zero n)

where-both : (b c : Bool) (v : ℕ) → where_in b (where_in c v) ≡ where_in c (where_in b v)
where-both true true v = refl
where-both true false v = refl
where-both false true v = refl
where-both false false v = refl

module _ (f : ℕ → ℕ → ℕ) (set : ℕ → Bool) where
  -- What flows within the set.
  abbrev pub inside : ℕ
  inside = sum_below 52 (λ x. where_in (set x) (sum_below 52 (λ y. where_in (set y) (f x y))))

  abbrev turned_inside : ℕ
  turned_inside = sum_below 52 (λ x. where_in (set x) (sum_below 52 (λ y. where_in (set y) (f y x))))

  inside-turned : inside ≡ turned_inside
  inside-turned =
      sum-same 52 (λ x. where_in (set x) (sum_below 52 (λ y. where_in (set y) (f x y)))) (λ x. sum_below 52 (λ y. where_in (set x) (where_in (set y) (f x y)))) (λ x h. where-sum (set x) 52 (λ y. where_in (set y) (f x y)))
      ∙ sum-swap 52 52 (λ x y. where_in (set x) (where_in (set y) (f x y)))
      ∙ sum-same 52 (λ y. sum_below 52 (λ x. where_in (set x) (where_in (set y) (f x y)))) (λ y. where_in (set y) (sum_below 52 (λ x. where_in (set x) (f x y))))
      (λ y h. sum-same 52 (λ x. where_in (set x) (where_in (set y) (f x y))) (λ x. where_in (set y) (where_in (set x) (f x y))) (λ x i. where-both (set x) (set y) (f x y)) ∙ sym (where-sum (set y) 52 (λ x. where_in (set x) (f x y))))

  -- What flows out of the letters of a set stays in the set or leaves it.
  pub out-split : sum_below 52 (λ x. where_in (set x) (outflow f x)) ≡ inside + capacity_of_set f set
  out-split =
      sum-same 52 (λ x. where_in (set x) (outflow f x)) (λ x. where_in (set x) (sum_below 52 (λ y. where_in (set y) (f x y))) + where_in (set x) (sum_below 52 (λ y. where_in (not (set y)) (f x y))))
      (λ x h. ap (where_in (set x)) (split set (λ y. f x y)) ∙ where-add (set x) (sum_below 52 (λ y. where_in (set y) (f x y))) (sum_below 52 (λ y. where_in (not (set y)) (f x y))))
      ∙ sum-add 52 (λ x. where_in (set x) (sum_below 52 (λ y. where_in (set y) (f x y)))) (λ x. where_in (set x) (sum_below 52 (λ y. where_in (not (set y)) (f x y))))

  pub in-split : sum_below 52 (λ x. where_in (set x) (inflow f x)) ≡ inside + capacity_of_set (λ x y. f y x) set
  in-split =
      sum-same 52 (λ x. where_in (set x) (inflow f x)) (λ x. where_in (set x) (sum_below 52 (λ y. where_in (set y) (f y x))) + where_in (set x) (sum_below 52 (λ y. where_in (not (set y)) (f y x))))
      (λ x h. ap (where_in (set x)) (split set (λ y. f y x)) ∙ where-add (set x) (sum_below 52 (λ y. where_in (set y) (f y x))) (sum_below 52 (λ y. where_in (not (set y)) (f y x))))
      ∙ sum-add 52 (λ x. where_in (set x) (sum_below 52 (λ y. where_in (set y) (f y x)))) (λ x. where_in (set x) (sum_below 52 (λ y. where_in (not (set y)) (f y x))))
      ∙ ap (λ k. k + capacity_of_set (λ x y. f y x) set) (sym inside-turned)

module _ (f g : ℕ → ℕ → ℕ) (set : ℕ → Bool) where
  pub capacity-same : ((x y : ℕ) → x < 52 → y < 52 → set x ≡ true → set y ≡ false → f x y ≡ g x y) → capacity_of_set f set ≡ capacity_of_set g set
  capacity-same e =
      sum-same 52 (λ x. where_in (set x) (sum_below 52 (λ y. where_in (not (set y)) (f x y)))) (λ x. where_in (set x) (sum_below 52 (λ y. where_in (not (set y)) (g x y)))) (λ x h. row x h (set x) refl)
    where
      cell : (x y : ℕ) → x < 52 → y < 52 → set x ≡ true → (b : Bool) → set y ≡ b → where_in (not b) (f x y) ≡ where_in (not b) (g x y)
      cell x y h i p true q = refl
      cell x y h i p false q = e x y h i p q

      row : (x : ℕ) → x < 52 → (b : Bool) → set x ≡ b → where_in b (sum_below 52 (λ y. where_in (not (set y)) (f x y))) ≡ where_in b (sum_below 52 (λ y. where_in (not (set y)) (g x y)))
      row x h false p = refl
      row x h true p = sum-same 52 (λ y. where_in (not (set y)) (f x y)) (λ y. where_in (not (set y)) (g x y)) (λ y i. cell x y h i p (set y) refl)

  module _ (e : (x y : ℕ) → x < 52 → y < 52 → set x ≡ true → set y ≡ false → f x y ≤ g x y) where
    cell-le : (x y : ℕ) → x < 52 → y < 52 → set x ≡ true → (b : Bool) → set y ≡ b → where_in (not b) (f x y) ≤ where_in (not b) (g x y)
    cell-le x y h i p true q = omega arith
    cell-le x y h i p false q = e x y h i p q

    row-le : (x : ℕ) → x < 52 → (b : Bool) → set x ≡ b → where_in b (sum_below 52 (λ y. where_in (not (set y)) (f x y))) ≤ where_in b (sum_below 52 (λ y. where_in (not (set y)) (g x y)))
    row-le x h false p = omega arith
    row-le x h true p = sum-le 52 (λ y. where_in (not (set y)) (f x y)) (λ y. where_in (not (set y)) (g x y)) (λ y i. cell-le x y h i p (set y) refl)

    pub capacity-le : capacity_of_set f set ≤ capacity_of_set g set
    capacity-le = sum-le 52 (λ x. where_in (set x) (sum_below 52 (λ y. where_in (not (set y)) (f x y)))) (λ x. where_in (set x) (sum_below 52 (λ y. where_in (not (set y)) (g x y)))) (λ x h. row-le x h (set x) refl)

    pub capacity-less : (x y : ℕ) → x < 52 → y < 52 → set x ≡ true → set y ≡ false → f x y < g x y → capacity_of_set f set < capacity_of_set g set
    capacity-less x y h i p q l =
        let here : where_in (not (set y)) (f x y) < where_in (not (set y)) (g x y) = subst (λ (b : Bool). where_in (not b) (f x y) < where_in (not b) (g x y)) (sym q) l in
        let row : sum_below 52 (λ z. where_in (not (set z)) (f x z)) < sum_below 52 (λ z. where_in (not (set z)) (g x z)) =
        sum-less 52 y (λ z. where_in (not (set z)) (f x z)) (λ z. where_in (not (set z)) (g x z)) i (λ z j. cell-le x z h j p (set z) refl) here in
        sum-less 52 x (λ u. where_in (set u) (sum_below 52 (λ z. where_in (not (set z)) (f u z)))) (λ u. where_in (set u) (sum_below 52 (λ z. where_in (not (set z)) (g u z)))) h
        (λ u j. row-le u j (set u) refl)
        (subst (λ (b : Bool). where_in b (sum_below 52 (λ z. where_in (not (set z)) (f x z))) < where_in b (sum_below 52 (λ z. where_in (not (set z)) (g x z)))) (sym p) row)

pub capacity-zero : (set : ℕ → Bool) → capacity_of_set (λ _ _. 0) set ≡ 0
capacity-zero set = sum-same 52 (λ x. where_in (set x) (sum_below 52 (λ y. where_in (not (set y)) 0))) (λ _. 0) (λ x h. ap (where_in (set x)) (sum-same 52 (λ y. where_in (not (set y)) 0) (λ _. 0) (λ y i. where-zero (not (set y))) ∙ sum-zero 52) ∙ where-zero (set x)) ∙ sum-zero 52
