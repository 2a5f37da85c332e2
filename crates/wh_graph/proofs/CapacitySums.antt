-- The capacity of a set with one letter more: the degree of the letter is added, and the edges between it and the set are taken off twice.
use Rattle.std.proofs.Common.{◌≡◌, ◌≢◌, ℕ, ◌+◌, ◌*◌, ◌<◌, Bool, true, false, not, refl, sym, ap, ◌∙◌, arith}
use Rattle.wh_words.specs.Flows.{sum_below, where_in, degree, capacity_of_set}
use Rattle.wh_flow.proofs.Sums.{sum-same, sum-add, sum-one}
use Rattle.wh_flow.proofs.SetSums.{where-add}

halves : (b : Bool) (v : ℕ) → v ≡ where_in (not b) v + where_in b v
halves true v = omega arith
halves false v = omega arith

-- The set B is A and one letter v more.
module _ (c : ℕ → ℕ → ℕ) (A B : ℕ → Bool) (v : ℕ) (low : v < 52) (out : A v ≡ false) (in' : B v ≡ true) (same : (x : ℕ) → x ≢ v → B x ≡ A x) where
  -- What leads from a letter out of a set.
  row : (ℕ → Bool) → ℕ → ℕ
  row set x = sum_below 52 (λ y. where_in (not (set y)) (c x y))

  row_less : (x : ℕ) → row A x ≡ row B x + c x v
  unfolding row
  row_less x =
      sum-one 52 v (c x v) (λ y. where_in (not (A y)) (c x y)) (λ y. where_in (not (B y)) (c x y)) low
      (λ y h n. ap (λ b. where_in (not b) (c x y)) (sym (same y n)))
      (omega (arith, ap (λ b. where_in (not b) (c x v)) out, ap (λ b. where_in (not b) (c x v)) in'))

  capacity_rows : (set : ℕ → Bool) → capacity_of_set c set ≡ sum_below 52 (λ x. where_in (set x) (row set x))
  unfolding row
  capacity_rows set = refl

  old_capacity : capacity_of_set c A ≡ sum_below 52 (λ x. where_in (A x) (row B x)) + sum_below 52 (λ x. where_in (A x) (c x v))
  old_capacity =
      capacity_rows A
      ∙ sum-same 52 (λ x. where_in (A x) (row A x)) (λ x. where_in (A x) (row B x) + where_in (A x) (c x v)) (λ x h. ap (where_in (A x)) (row_less x) ∙ where-add (A x) (row B x) (c x v))
      ∙ sum-add 52 (λ x. where_in (A x) (row B x)) (λ x. where_in (A x) (c x v))

  new_capacity : capacity_of_set c B ≡ sum_below 52 (λ x. where_in (A x) (row B x)) + row B v
  new_capacity =
      capacity_rows B
      ∙ sum-one 52 v (row B v) (λ x. where_in (B x) (row B x)) (λ x. where_in (A x) (row B x)) low
      (λ x h n. ap (λ b. where_in b (row B x)) (same x n))
      (omega (arith, ap (λ b. where_in b (row B v)) out, ap (λ b. where_in b (row B v)) in'))

  letter_degree : degree c v ≡ row A v + sum_below 52 (λ y. where_in (A y) (c v y))
  unfolding row
  letter_degree =
      sum-same 52 (λ y. c v y) (λ y. where_in (not (A y)) (c v y) + where_in (A y) (c v y)) (λ y h. halves (A y) (c v y))
      ∙ sum-add 52 (λ y. where_in (not (A y)) (c v y)) (λ y. where_in (A y) (c v y))

  pub one_more : ((x : ℕ) → x < 52 → c x v ≡ c v x) → c v v ≡ 0 → capacity_of_set c B + 2 * sum_below 52 (λ y. where_in (A y) (c v y)) ≡ capacity_of_set c A + degree c v
  one_more symmetric none =
      omega (
        arith,
        old_capacity,
        new_capacity,
        letter_degree,
        row_less v,
        none,
        sum-same 52 (λ x. where_in (A x) (c x v)) (λ x. where_in (A x) (c v x)) (λ x h. ap (where_in (A x)) (symmetric x h)),
      )
