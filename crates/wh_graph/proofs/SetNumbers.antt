-- Sets of letters as numbers: the number of a set, and that a subset is no greater.
use Rattle.std.proofs.Common.{◌≡◌, ℕ, zero, suc, ◌+◌, ◌*◌, ◌/◌, ◌^◌, ◌<◌, ◌≤◌, ◌==◌, Bool, true, false, cond, refl, ap, ◌∙◌, inl, inr, arith}
use Rattle.std.proofs.lemmas.Bool.{cases_eq, eq-eqb, eqb-true}
use Rattle.std.proofs.lemmas.Nat.Bits.{bit_at_lowest, bit_at-suc, bit_at-lt}
use Rattle.std.proofs.Math.Nat.{pow-suc}
use Rattle.std.specs.Int.{bit_at}
use Rattle.wh_words.specs.Letters.{inverse_letter}
use Rattle.wh_words.specs.LetterSets.{in_set}
use Rattle.wh_words.specs.Moves.{IsCut}
use Rattle.wh_words.specs.CapacityTraces.{IsSubset}
use Rattle.wh_words.proofs.LetterMaps.{inverse_below}
pub use Rattle.wh_graph.specs.SetMasks.{mask}

bit_small : (b : Bool) → cond b 1 0 < 2
bit_small true = omega arith
bit_small false = omega arith

bit_back : (b : Bool) → (cond b 1 0 == 1) ≡ b
bit_back true = refl
bit_back false = refl

pub mask_lt : (k : ℕ) (has : ℕ → Bool) → mask k has < 2 ^ k
unfolding mask
mask_lt zero has = omega arith
mask_lt (suc k) has = omega (arith, bit_small (has 0), mask_lt k (λ x. has (suc x)), pow-suc 2 k)

pub mask_bit : (k : ℕ) (has : ℕ → Bool) (i : ℕ) → i < k → bit_at (mask k has) i ≡ cond (has i) 1 0
unfolding mask
mask_bit zero has i l = absurd (omega arith)
mask_bit (suc k) has zero l = bit_at_lowest (cond (has 0) 1 0 + 2 * mask k (λ x. has (suc x))) ∙ omega (arith, bit_small (has 0))
mask_bit (suc k) has (suc i) l =
    let half : (cond (has 0) 1 0 + 2 * mask k (λ x. has (suc x))) / 2 ≡ mask k (λ x. has (suc x)) = omega (arith, bit_small (has 0)) in
    bit_at-suc (cond (has 0) 1 0 + 2 * mask k (λ x. has (suc x))) i ∙ (ap (λ m. bit_at m i) half ∙ mask_bit k (λ x. has (suc x)) i (omega arith))

pub mask_has : (k : ℕ) (has : ℕ → Bool) (i : ℕ) → i < k → in_set (mask k has) i ≡ has i
mask_has k has i l = ap (λ b. b == 1) (mask_bit k has i l) ∙ bit_back (has i)

pub holds : (set x : ℕ) → bit_at set x ≡ 1 → in_set set x ≡ true
holds set x h = eq-eqb (bit_at set x) 1 h

pub omits : (set x : ℕ) → bit_at set x ≡ 0 → in_set set x ≡ false
omits set x h = ap (λ b. b == 1) h

pub holds_back : (set x : ℕ) → in_set set x ≡ true → bit_at set x ≡ 1
holds_back set x h = eqb-true (bit_at set x) 1 h

-- The letters of the rank that pass a test make a cut, where the multiplier passes and its inverse doesn't.
pub mask_cut : (n a : ℕ) (has : ℕ → Bool) → a < 2 * n → has a ≡ true → has (inverse_letter a) ≡ false → IsCut n a (mask (2 * n) has)
mask_cut n a has l h o = record {
  of_rank = l;
  within = mask_lt (2 * n) has;
  holds = mask_bit (2 * n) has a l ∙ ap (λ b. cond b 1 0) h;
  omits = mask_bit (2 * n) has (inverse_letter a) (inverse_below n a l) ∙ ap (λ b. cond b 1 0) o;
}

-- ---- subsets
bits_le : (k a b : ℕ) → a < 2 ^ k → ((i : ℕ) → bit_at a i ≤ bit_at b i) → a ≤ b
bits_le zero a b l h = omega arith
bits_le (suc k) a b l h =
    let half : a / 2 ≤ b / 2 = bits_le k (a / 2) (b / 2) (omega (arith, l, pow-suc 2 k)) (λ i. omega (arith, h (suc i), bit_at-suc a i, bit_at-suc b i)) in
    omega (arith, half, h 0, bit_at_lowest a, bit_at_lowest b)

pub subset_le : (k a b : ℕ) → a < 2 ^ k → IsSubset a b → a ≤ b
subset_le k a b l h = bits_le k a b l (λ i. elim (cases_eq (bit_at a i) 1) [
  | inl e ↦ omega (arith, e, h i e)
  | inr n ↦ omega (arith, n, bit_at-lt a i)
])
