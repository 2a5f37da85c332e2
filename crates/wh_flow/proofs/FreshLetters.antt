-- Letters of a set that weren't seen, as bits of masks.
use Rattle.std.proofs.Common.{◌≡◌, ℕ, ◌^◌, ◌<◌, bit_and, true, ap, subst, inl, inr, arith, Option, w64}
use Rattle.std.proofs.lemmas.Bool.{cases_Bool, eqb-true, eqb-false, eq-eqb}
use Rattle.std.specs.Prelude.{Some, None, MatchOption}
use Rattle.std.specs.Int.{bit_at, bit_not}
use Rattle.std.proofs.lemmas.Nat.Bits.{bit_at_and, bit_at_not, bit_at-lt, bit_at-zero}
use Rattle.wh_words.specs.LetterSets.{in_set}
use Rattle.wh_flow.specs.Masks.{IsFresh, IsAllSeen}

pub in_part : (a b y : ℕ) → in_set (bit_and a b) y ≡ true → in_set a y ≡ true
in_part a b y h = eq-eqb (bit_at a y) 1 (omega (arith, bit_at_and a b y, eqb-true (bit_at (bit_and a b) y) 1 h, bit_at-lt a y))

pub in_fresh : (set seen y : ℕ) → seen < 2 ^ 64 → y < 64 → in_set (bit_and set (bit_not w64 seen)) y ≡ true → IsFresh set seen y
in_fresh set seen y l h b = (
  h,
  (
    in_part set (bit_not w64 seen) y b,
    elim (cases_Bool (in_set seen y)) [
      | inl s ↦ absurd (omega (arith, eqb-true (bit_at seen y) 1 s, bit_at_not w64 seen y l h, bit_at_and set (bit_not w64 seen) y, eqb-true (bit_at (bit_and set (bit_not w64 seen)) y) 1 b))
      | inr s ↦ s
    ],
  ),
)

pub none_fresh : (set seen : ℕ) → seen < 2 ^ 64 → bit_and set (bit_not w64 seen) ≡ 0 → IsAllSeen set seen
none_fresh set seen l e y h b = elim (cases_Bool (in_set seen y)) [
  | inl s ↦ s
  | inr s ↦ absurd (omega (
    arith,
    eqb-true (bit_at set y) 1 b,
    eqb-false (bit_at seen y) 1 s,
    bit_at-lt seen y,
    bit_at_not w64 seen y l h,
    bit_at_and set (bit_not w64 seen) y,
    ap (λ m. bit_at m y) e,
    bit_at-zero y,
  ))
]

-- The first letter that wasn't seen, of those that are preferred.
pub first_of : (set seen a b part : ℕ) (r : Option ℕ) → a ≡ set → b ≡ seen → b < 2 ^ 64 → (part ≡ 0 → bit_and a (bit_not w64 b) ≡ 0)
    → ((y : ℕ) → in_set part y ≡ true → in_set (bit_and a (bit_not w64 b)) y ≡ true)
    → MatchOption r (part ≡ 0) (λ y. (y < 64) × (in_set part y ≡ true)) → MatchOption r (IsAllSeen set seen) (IsFresh set seen)
first_of set seen a b part None e k l none within h =
    subst (λ (s : ℕ). IsAllSeen s seen) e (subst (IsAllSeen a) k (none_fresh a b l (none h)))
first_of set seen a b part (Some y) e k l none within h =
    subst (λ (s : ℕ). IsFresh s seen y) e (subst (λ (m : ℕ). IsFresh a m y) k (in_fresh a b y l h.0 (within y h.1)))
