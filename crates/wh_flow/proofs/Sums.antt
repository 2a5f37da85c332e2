-- Sums: equal, smaller and swapped ones, and sums that differ at one place.
use Rattle.std.proofs.Common.{◌≡◌, ◌≢◌, ℕ, zero, suc, ◌+◌, ◌<◌, ◌≤◌, refl, sym, ap, ◌∙◌, subst, inl, inr, arith}
use Rattle.std.proofs.lemmas.Bool.{cases_eq}
use Rattle.wh_words.specs.Flows.{sum_below}

pub sum-same : (n : ℕ) (f g : ℕ → ℕ) → ((k : ℕ) → k < n → f k ≡ g k) → sum_below n f ≡ sum_below n g
unfolding sum_below
sum-same zero f g e = refl
sum-same (suc n) f g e = omega (arith, sum-same n f g (λ k h. e k (omega arith)), e n (omega arith))

pub sum-le : (n : ℕ) (f g : ℕ → ℕ) → ((k : ℕ) → k < n → f k ≤ g k) → sum_below n f ≤ sum_below n g
unfolding sum_below
sum-le zero f g e = omega arith
sum-le (suc n) f g e = omega (arith, sum-le n f g (λ k h. e k (omega arith)), e n (omega arith))

pub sum-add : (n : ℕ) (f g : ℕ → ℕ) → sum_below n (λ k. f k + g k) ≡ sum_below n f + sum_below n g
unfolding sum_below
sum-add zero f g = omega arith
sum-add (suc n) f g = omega (arith, sum-add n f g)

pub sum-zero : (n : ℕ) → sum_below n (λ _. 0) ≡ 0
unfolding sum_below
sum-zero zero = refl
sum-zero (suc n) = omega (arith, sum-zero n)

pub sum-swap : (m n : ℕ) (f : ℕ → ℕ → ℕ) → sum_below m (λ x. sum_below n (λ y. f x y)) ≡ sum_below n (λ y. sum_below m (λ x. f x y))
unfolding sum_below
sum-swap zero n f = sym (sum-zero n)
sum-swap (suc m) n f = ap (λ k. k + sum_below n (λ y. f m y)) (sum-swap m n f) ∙ sym (sum-add n (λ y. sum_below m (λ x. f x y)) (λ y. f m y))

-- Two sums that differ at one place.
pub sum-at : (n s : ℕ) (f g : ℕ → ℕ) → s < n → ((k : ℕ) → k < n → k ≢ s → f k ≡ g k) → sum_below n f + g s ≡ sum_below n g + f s
unfolding sum_below
sum-at zero s f g l e = absurd (omega arith)
sum-at (suc n) s f g l e = elim (cases_eq s n) [
  | inl q ↦ subst (λ (k : ℕ). (sum_below n f + f n) + g k ≡ (sum_below n g + g n) + f k) (sym q)
      (omega (arith, sum-same n f g (λ k i. e k (omega arith) (omega arith))))
  | inr q ↦ omega (arith, sum-at n s f g (omega arith) (λ k i. e k (omega arith)), e n (omega arith) (λ r. q (sym r)))
]

pub sum-one : (n s v : ℕ) (f g : ℕ → ℕ) → s < n → ((k : ℕ) → k < n → k ≢ s → f k ≡ g k) → f s ≡ g s + v → sum_below n f ≡ sum_below n g + v
sum-one n s v f g l e h = omega (arith, h, sum-at n s f g l e)

-- Equal sums that agree elsewhere agree here.
pub sum-rest : (n t : ℕ) (f g : ℕ → ℕ) → t < n → ((k : ℕ) → k < n → k ≢ t → f k ≡ g k) → sum_below n f ≡ sum_below n g → f t ≡ g t
sum-rest n t f g l e h = omega (arith, h, sum-at n t f g l e)

pub sum-less : (n k : ℕ) (f g : ℕ → ℕ) → k < n → ((i : ℕ) → i < n → f i ≤ g i) → f k < g k → sum_below n f < sum_below n g
unfolding sum_below
sum-less zero k f g l e h = absurd (omega arith)
sum-less (suc n) k f g l e h = elim (cases_eq k n) [
  | inl q ↦ (let here : f n < g n = subst (λ (i : ℕ). f i < g i) q h in
      omega (arith, here, sum-le n f g (λ i j. e i (omega arith))))
  | inr q ↦ omega (arith, sum-less n k f g (omega arith) (λ i j. e i (omega arith)) h, e n (omega arith))
]

-- Terms that aren't above, with equal sums, are equal.
pub sum-tight : (n k : ℕ) (f g : ℕ → ℕ) → k < n → ((i : ℕ) → i < n → f i ≤ g i) → sum_below n g ≤ sum_below n f → f k ≡ g k
sum-tight n k f g l e h = elim (cases_eq (f k) (g k)) [
  | inl q ↦ q
  | inr q ↦ absurd (omega (arith, h, sum-less n k f g l e (omega (arith, q, e k l))))
]

pub sum-part : (n k : ℕ) (f : ℕ → ℕ) → k < n → f k ≤ sum_below n f
unfolding sum_below
sum-part zero k f l = absurd (omega arith)
sum-part (suc n) k f l = elim (cases_eq k n) [
  | inl q ↦ omega (arith, ap f q)
  | inr q ↦ omega (arith, sum-part n k f (omega arith))
]

pub sum_none : (f : ℕ → ℕ) → sum_below 0 f ≡ 0
unfolding sum_below
sum_none f = refl

pub sum_more : (n : ℕ) (f : ℕ → ℕ) → sum_below (n + 1) f ≡ sum_below n f + f n
unfolding sum_below
sum_more n f = let e : suc n ≡ n + 1 = omega arith in subst (λ (k : ℕ). sum_below k f ≡ sum_below n f + f n) e refl
