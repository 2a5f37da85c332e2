-- Swaps and inversions as maps of letters.
use Rattle.std.proofs.Common.{◌≡◌, ◌≢◌, ℕ, ◌+◌, ◌-◌, ◌*◌, ◌/◌, ◌<◌, ◌==◌, Bool, cond, ap, ◌∙◌, inl, inr, arith}
use Rattle.std.proofs.lemmas.Bool.{cases_eq, eq-eqb, ne_eqb}
use Rattle.std.proofs.lemmas.Bool.Decides.{nat_tests}
use Rattle.wh_words.specs.Letters.{inverse_letter}
use Rattle.wh_words.specs.Images.{swap_letter, invert_letter}
use Rattle.wh_words.proofs.FreeReduction.{inverse-inverse, inverse_generator}

pub inverse_below : (n x : ℕ) → x < 2 * n → inverse_letter x < 2 * n
unfolding inverse_letter
inverse_below n x h = omega arith

-- ---- swaps
pub swap_up : (k x : ℕ) → x / 2 + 1 ≡ k → swap_letter k x ≡ x + 2
swap_up k x e = ap (λ (b : Bool). cond b (x + 2) (cond (x / 2 == k) (x - 2) x)) (eq-eqb (x / 2 + 1) k e)

pub swap_down : (k x : ℕ) → x / 2 ≡ k → swap_letter k x ≡ x - 2
swap_down k x e =
    let n : x / 2 + 1 ≢ k = λ f. absurd (omega (arith, e, f)) in
    ap (λ (b : Bool). cond b (x + 2) (cond (x / 2 == k) (x - 2) x)) (ne_eqb (x / 2 + 1) k n) ∙ ap (λ (b : Bool). cond b (x - 2) x) (eq-eqb (x / 2) k e)

pub swap_stay : (k x : ℕ) → x / 2 + 1 ≢ k → x / 2 ≢ k → swap_letter k x ≡ x
swap_stay k x n m = ap (λ (b : Bool). cond b (x + 2) (cond (x / 2 == k) (x - 2) x)) (ne_eqb (x / 2 + 1) k n) ∙ ap (λ (b : Bool). cond b (x - 2) x) (ne_eqb (x / 2) k m)

pub swap_back : (k : ℕ) → 0 < k → (x : ℕ) → swap_letter k (swap_letter k x) ≡ x
swap_back k h x = grind (arith, nat_tests)

pub swap_below : (n k x : ℕ) → k < n → x < 2 * n → swap_letter k x < 2 * n
swap_below n k x l h = elim (cases_eq (x / 2 + 1) k) [
  | inl e ↦ omega (arith, swap_up k x e)
  | inr g ↦ elim (cases_eq (x / 2) k) [
    | inl e ↦ omega (arith, swap_down k x e)
    | inr f ↦ omega (arith, swap_stay k x g f)
  ]
]

-- ---- inversions
pub invert_here : (k x : ℕ) → x / 2 + 1 ≡ k → invert_letter k x ≡ inverse_letter x
invert_here k x e = ap (λ (b : Bool). cond b (inverse_letter x) x) (eq-eqb (x / 2 + 1) k e)

pub invert_there : (k x : ℕ) → x / 2 + 1 ≢ k → invert_letter k x ≡ x
invert_there k x n = ap (λ (b : Bool). cond b (inverse_letter x) x) (ne_eqb (x / 2 + 1) k n)

pub invert_back : (k x : ℕ) → invert_letter k (invert_letter k x) ≡ x
invert_back k x = elim (cases_eq (x / 2 + 1) k) [
  | inl e ↦ ap (invert_letter k) (invert_here k x e) ∙ (invert_here k (inverse_letter x) (omega (arith, inverse_generator x, e)) ∙ inverse-inverse x)
  | inr h ↦ ap (invert_letter k) (invert_there k x h) ∙ invert_there k x h
]

pub invert_below : (n k x : ℕ) → x < 2 * n → invert_letter k x < 2 * n
invert_below n k x h = elim (cases_eq (x / 2 + 1) k) [
  | inl e ↦ omega (arith, invert_here k x e, inverse_below n x h)
  | inr g ↦ omega (arith, invert_there k x g)
]
