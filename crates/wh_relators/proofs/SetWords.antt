-- Operations on masks as sets of letters by tests.
use Rattle.std.proofs.Common.{◌≡◌, ℕ, zero, suc, ◌*◌, ◌^◌, ◌<◌, ◌≤◌, ◌==◌, Bool, false, max, min, refl, sym, ap, ap₂, inl, inr, ◌∙◌, arith, eq-eqb, ne_eqb, bit_or, bit_and}
use Rattle.std.proofs.lemmas.Bool.{cases_lt, cases_eq, true≢false}
use Rattle.std.proofs.lemmas.Nat.Bits.{bit_at_or, bit_at_and, bit_at-lt, bit_at-pow_same, bit_at-pow_other}
use Rattle.std.proofs.lemmas.Nat.{le_or_r, pow_pos}
use Rattle.std.specs.Int.Bits.{or_add_and}
use Rattle.std.specs.Prelude.{nat_eq, ◌&&◌, ◌||◌}
use Rattle.std.specs.Int.{bit_at}
use Rattle.wh_words.specs.LetterSets.{in_set}
use Rattle.wh_graph.specs.SetMasks.{mask}
use Rattle.wh_graph.proofs.SetNumbers.{mask_lt, mask_has, holds, omits, subset_le, holds_back}
use Rattle.wh_relators.specs.Cuts.{union}
use Rattle.wh_relators.specs.Families.{are_apart, meet_in}
use Rattle.wh_relators.proofs.Sets.{past_rank, mask-is}

-- Numbers below 2: their maximum and minimum are 1 as the tests say.
or_test : (p q : ℕ) → p < 2 → q < 2 → (max p q == 1) ≡ ((p == 1) || (q == 1))
or_test zero zero h k = refl
or_test zero (suc zero) h k = refl
or_test (suc zero) zero h k = refl
or_test (suc zero) (suc zero) h k = refl
or_test (suc (suc p)) q h k = absurd (omega (arith, h))
or_test p (suc (suc q)) h k = absurd (omega (arith, k))

and_test : (p q : ℕ) → p < 2 → q < 2 → (min p q == 1) ≡ ((p == 1) && (q == 1))
and_test zero zero h k = refl
and_test zero (suc zero) h k = refl
and_test (suc zero) zero h k = refl
and_test (suc zero) (suc zero) h k = refl
and_test (suc (suc p)) q h k = absurd (omega (arith, h))
and_test p (suc (suc q)) h k = absurd (omega (arith, k))

pub in_or : (a b x : ℕ) → in_set (bit_or a b) x ≡ (in_set a x || in_set b x)
in_or a b x = ap (λ n. n == 1) (bit_at_or a b x) ∙ or_test (bit_at a x) (bit_at b x) (bit_at-lt a x) (bit_at-lt b x)

pub in_and : (a b x : ℕ) → in_set (bit_and a b) x ≡ (in_set a x && in_set b x)
in_and a b x = ap (λ n. n == 1) (bit_at_and a b x) ∙ and_test (bit_at a x) (bit_at b x) (bit_at-lt a x) (bit_at-lt b x)

module _ (n k v : ℕ) (small : v < 2 ^ k) (test : ℕ → Bool) (h : (x : ℕ) → in_set v x ≡ test x) (none : (x : ℕ) → 2 * n ≤ x → test x ≡ false) where
  within_mask : v ≤ mask (2 * n) test
  within_mask = subset_le k v (mask (2 * n) test) small (λ x e. elim (cases_lt x (2 * n)) [
    | inl l ↦ holds_back (mask (2 * n) test) x (mask_has (2 * n) test x l ∙ (sym (h x) ∙ holds v x e))
    | inr g ↦ absurd (true≢false (sym (holds v x e) ∙ (h x ∙ none x g)))
  ])

  -- A number whose bits are those of a test is the set of the test.
  pub set_of_bits : v ≡ mask (2 * n) test
  set_of_bits = sym (mask-is n v test (omega (arith, within_mask, mask_lt (2 * n) test)) (λ x l. h x))

module _ (n a b : ℕ) (la : a < 2 ^ (2 * n)) where
  and_small : bit_and a b < 2 ^ (2 * n)
  and_small = omega (arith, or_add_and a b, le_or_r a b, la)

  both_none : (x : ℕ) → 2 * n ≤ x → (in_set a x && in_set b x) ≡ false
  both_none x g = ap (λ t. t && in_set b x) (past_rank n a x la g)

  pub both_is : bit_and a b ≡ mask (2 * n) (λ x. in_set a x && in_set b x)
  both_is = set_of_bits n (2 * n) (bit_and a b) and_small (λ x. in_set a x && in_set b x) (in_and a b) both_none

  pub apart_is : nat_eq (bit_and a b) 0 ≡ are_apart n a b
  apart_is = ap (λ s. s == 0) both_is

  pub meet_is : (letter : ℕ) → letter < 2 * n → nat_eq (bit_and a b) (2 ^ letter) ≡ meet_in n letter a b
  meet_is letter l = ap₂ (λ s t. s == t) both_is (set_of_bits n (suc letter) (2 ^ letter) (one_small letter) (λ x. x == letter) (in_one letter) (λ x g. ne_eqb x letter (λ e. omega (arith, e, g, l))))
    where
      one_small : (k : ℕ) → 2 ^ k < 2 ^ suc k
      one_small k = omega (arith, pow_pos k)

      in_one : (k x : ℕ) → in_set (2 ^ k) x ≡ (x == k)
      in_one k x = elim (cases_eq x k) [
        | inl e ↦ ap (in_set (2 ^ k)) e ∙ (holds (2 ^ k) k (bit_at-pow_same k) ∙ sym (eq-eqb x k e))
        | inr ne ↦ omits (2 ^ k) x (bit_at-pow_other k x ne) ∙ sym (ne_eqb x k ne)
      ]

  pub union_is : b < 2 ^ (2 * n) → bit_or a b ≡ union n a b
  union_is lb = set_of_bits n (suc (2 * n)) (bit_or a b) (or_small lb) (λ x. in_set a x || in_set b x) (in_or a b) (λ x g. ap₂ (λ s t. s || t) (past_rank n a x la g) (past_rank n b x lb g))
    where
      or_small : b < 2 ^ (2 * n) → bit_or a b < 2 ^ suc (2 * n)
      or_small lb = omega (arith, or_add_and a b, la, lb)
