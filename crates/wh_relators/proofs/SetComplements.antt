-- Sets made by leaving letters out.
use Rattle.std.proofs.Common.{◌≡◌, ◌≢◌, ℕ, zero, suc, ◌+◌, ◌-◌, ◌*◌, ◌^◌, ◌<◌, ◌≤◌, ◌==◌, Bool, true, false, not, refl, sym, ap, inl, inr, ◌∙◌, arith, eq-eqb, ne_eqb}
use Rattle.std.proofs.lemmas.Bool.{cases_eq}
use Rattle.std.proofs.lemmas.Nat.Bits.{bit_at-lt}
use Rattle.std.specs.Prelude.{◌&&◌, ◌||◌}
use Rattle.std.specs.Int.{bit_at}
use Rattle.wh_words.specs.LetterSets.{in_set}
use Rattle.wh_graph.specs.SetMasks.{mask}
use Rattle.wh_graph.proofs.SetNumbers.{mask_lt, mask_has, holds}
use Rattle.wh_relators.specs.Cuts.{union, union_less, others, all_but}
use Rattle.wh_relators.proofs.Sets.{mask-is, no_letters}

flip_test : (p q : ℕ) → q < 2 → p ≡ 1 - q → (p == 1) ≡ not (q == 1)
flip_test p zero l e = ap (λ k. k == 1) e
flip_test p (suc zero) l e = let z : p ≡ 0 = omega (arith, e) in ap (λ k. k == 1) z
flip_test p (suc (suc q)) l e = absurd (omega (arith, l))

-- A set of the rank whose bits are the others.
pub others_is : (n a v : ℕ) → v < 2 ^ (2 * n) → ((i : ℕ) → i < 2 * n → bit_at v i ≡ 1 - bit_at a i) → v ≡ others n a
others_is n a v below h = sym (mask-is n v (λ x. not (in_set a x)) below (λ x l. flip_test (bit_at v x) (bit_at a x) (bit_at-lt a x) (h x l)))

-- A set with one letter more.
pub in_with : (v w letter : ℕ) → bit_at w letter ≡ 1 → ((i : ℕ) → i ≢ letter → bit_at w i ≡ bit_at v i) → (x : ℕ) → in_set w x ≡ (in_set v x || (x == letter))
in_with v w letter same other x = elim (cases_eq x letter) [
  | inl e ↦ ap (in_set w) e ∙ (holds w letter same ∙ (sym (or_true (in_set v x)) ∙ ap (λ b. in_set v x || b) (sym (eq-eqb x letter e))))
  | inr n ↦ ap (λ b. b == 1) (other x n) ∙ (sym (or_false (in_set v x)) ∙ ap (λ b. in_set v x || b) (sym (ne_eqb x letter n)))
]
  where
    or_true : (b : Bool) → (b || true) ≡ true
    or_true true = refl
    or_true false = refl

    or_false : (b : Bool) → (b || false) ≡ b
    or_false true = refl
    or_false false = refl

-- What is left of a set without a letter, by complements.
pub union_less_is : (n a b letter v w : ℕ) → v ≡ others n (union n a b) → bit_at w letter ≡ 1 → ((i : ℕ) → i ≢ letter → bit_at w i ≡ bit_at v i) → others n w ≡ union_less n a b letter
union_less_is n a b letter v w e same other = mask-is n (union_less n a b letter) (λ x. not (in_set w x)) (mask_lt (2 * n) (λ x. (in_set a x || in_set b x) && not (x == letter)))
    (λ x l. mask_has (2 * n) (λ z. (in_set a z || in_set b z) && not (z == letter)) x l ∙ sym (ap not (in_with v w letter same other x ∙ ap (λ t. t || (x == letter)) (was x l)) ∙ parts (in_set a x || in_set b x) (x == letter)))
  where
    was : (x : ℕ) → x < 2 * n → in_set v x ≡ not (in_set a x || in_set b x)
    was x l = ap (λ s. in_set s x) e ∙ (mask_has (2 * n) (λ z. not (in_set (union n a b) z)) x l ∙ ap not (mask_has (2 * n) (λ z. in_set a z || in_set b z) x l))

    parts : (p q : Bool) → not (not p || q) ≡ (p && not q)
    parts true true = refl
    parts true false = refl
    parts false true = refl
    parts false false = refl

pub all_but_is : (n letter v w : ℕ) → v ≡ 0 → bit_at w letter ≡ 1 → ((i : ℕ) → i ≢ letter → bit_at w i ≡ bit_at v i) → others n w ≡ all_but n letter
all_but_is n letter v w e same other = mask-is n (all_but n letter) (λ x. not (in_set w x)) (mask_lt (2 * n) (λ x. not (x == letter)))
    (λ x l. mask_has (2 * n) (λ z. not (z == letter)) x l ∙ sym (ap not (in_with v w letter same other x ∙ ap (λ t. t || (x == letter)) (ap (λ s. in_set s x) e ∙ no_letters x))))

-- The set has those letters below i that don't pass a test.
pub record Lacks (test : ℕ → Bool) (i v : ℕ) : Type 0 where
  pub below : (x : ℕ) → x < i → in_set v x ≡ not (test x)
  pub past : (x : ℕ) → i ≤ x → in_set v x ≡ false

pub lacks_none : (test : ℕ → Bool) (v : ℕ) → v ≡ 0 → Lacks test 0 v
lacks_none test v e = record { below = λ x l. absurd (omega (arith, l)); past = λ x l. ap (λ s. in_set s x) e ∙ no_letters x }

pub lacks_with : (test : ℕ → Bool) (i v w : ℕ) → Lacks test i v → test i ≡ false → bit_at w i ≡ 1 → ((j : ℕ) → j ≢ i → bit_at w j ≡ bit_at v j) → Lacks test (i + 1) w
lacks_with test i v w h f same other = record {
  below = λ x l. elim (cases_eq x i) [
    | inl e ↦ ap (in_set w) e ∙ (holds w i same ∙ (sym (ap not f) ∙ ap (λ y. not (test y)) (sym e)))
    | inr n ↦ ap (λ b. b == 1) (other x n) ∙ h.below x (omega (arith, l, n))
  ];
  past = λ x l. ap (λ b. b == 1) (other x (λ e. omega (arith, e, l))) ∙ h.past x (omega (arith, l));
}

pub lacks_without : (test : ℕ → Bool) (i v : ℕ) → Lacks test i v → test i ≡ true → Lacks test (i + 1) v
lacks_without test i v h t = record {
  below = λ x l. elim (cases_eq x i) [
    | inl e ↦ ap (in_set v) e ∙ (h.past i (omega arith) ∙ (sym (ap not t) ∙ ap (λ y. not (test y)) (sym e)))
    | inr n ↦ h.below x (omega (arith, l, n))
  ];
  past = λ x l. h.past x (omega (arith, l));
}

pub lacks_all : (n : ℕ) (test : ℕ → Bool) (v : ℕ) → Lacks test (2 * n) v → others n v ≡ mask (2 * n) test
lacks_all n test v h = mask-is n (mask (2 * n) test) (λ x. not (in_set v x)) (mask_lt (2 * n) test) (λ x l. mask_has (2 * n) test x l ∙ sym (ap not (h.below x l) ∙ twice (test x)))
  where
    twice : (b : Bool) → not (not b) ≡ b
    twice true = refl
    twice false = refl
