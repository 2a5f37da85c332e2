-- A power of two that is added to a mask or taken from it: one bit changes. For the set of an inverse cut.
use Rattle.std.proofs.Common.{◌≡◌, ◌≢◌, ℕ, zero, suc, ◌+◌, ◌-◌, ◌/◌, ◌^◌, ◌<◌, ◌≤◌, refl, sym, ap, ◌∙◌, arith}
use Rattle.std.specs.Int.{bit_at}
use Rattle.std.proofs.lemmas.Nat.Bits.{bit_at-suc, bit_at_lowest}

half_added : (n k : ℕ) → (n + 2 ^ suc k) / 2 ≡ n / 2 + 2 ^ k
half_added n k = omega arith

pub added_same : (n k : ℕ) → bit_at n k ≡ 0 → bit_at (n + 2 ^ k) k ≡ 1
added_same n zero h = bit_at_lowest (n + 1) ∙ omega (arith, h, bit_at_lowest n)
added_same n (suc k) h =
    bit_at-suc (n + 2 ^ suc k) k ∙ ap (λ m. bit_at m k) (half_added n k) ∙ added_same (n / 2) k (sym (bit_at-suc n k) ∙ h)

pub added_other : (n k i : ℕ) → bit_at n k ≡ 0 → i ≢ k → bit_at (n + 2 ^ k) i ≡ bit_at n i
added_other n zero zero h o = absurd (o refl)
added_other n zero (suc i) h o =
    let half : (n + 1) / 2 ≡ n / 2 = omega (arith, h, bit_at_lowest n) in
    bit_at-suc (n + 1) i ∙ ap (λ m. bit_at m i) half ∙ sym (bit_at-suc n i)
added_other n (suc k) zero h o = bit_at_lowest (n + 2 ^ suc k) ∙ omega arith ∙ sym (bit_at_lowest n)
added_other n (suc k) (suc i) h o =
    bit_at-suc (n + 2 ^ suc k) i ∙ ap (λ m. bit_at m i) (half_added n k)
    ∙ added_other (n / 2) k i (sym (bit_at-suc n k) ∙ h) (λ e. o (ap suc e)) ∙ sym (bit_at-suc n i)

pub added_within : (n k m : ℕ) → bit_at n k ≡ 0 → n < 2 ^ m → k < m → n + 2 ^ k < 2 ^ m
added_within n k zero h l b = absurd (omega (arith, b))
added_within n zero (suc m) h l b = omega (arith, h, bit_at_lowest n, l)
added_within n (suc k) (suc m) h l b = omega (arith, l, added_within (n / 2) k m (sym (bit_at-suc n k) ∙ h) (omega (arith, l)) (omega (arith, b)))

-- a bit that is there
pub held : (n k : ℕ) → bit_at n k ≡ 1 → 2 ^ k ≤ n
held n zero h = omega (arith, h, bit_at_lowest n)
held n (suc k) h = omega (arith, held (n / 2) k (sym (bit_at-suc n k) ∙ h))

pub removed_same : (n k : ℕ) → bit_at n k ≡ 1 → bit_at (n - 2 ^ k) k ≡ 0
removed_same n zero h = bit_at_lowest (n - 1) ∙ omega (arith, h, bit_at_lowest n)
removed_same n (suc k) h =
    let half : (n - 2 ^ suc k) / 2 ≡ n / 2 - 2 ^ k = omega arith in
    bit_at-suc (n - 2 ^ suc k) k ∙ ap (λ m. bit_at m k) half ∙ removed_same (n / 2) k (sym (bit_at-suc n k) ∙ h)

pub removed_other : (n k i : ℕ) → bit_at n k ≡ 1 → i ≢ k → bit_at (n - 2 ^ k) i ≡ bit_at n i
removed_other n k i h o =
    let whole : n - 2 ^ k + 2 ^ k ≡ n = omega (arith, held n k h) in
    sym (added_other (n - 2 ^ k) k i (removed_same n k h) o) ∙ ap (λ m. bit_at m i) whole
