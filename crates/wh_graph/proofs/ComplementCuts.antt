-- Generators and inverses as multipliers: the complement of the set of a cut makes a cut of the inverse of its multiplier.
use Rattle.std.proofs.Common.{◌≡◌, ℕ, ◌+◌, ◌*◌, ◌/◌, ◌%◌, ◌<◌, Bool, true, false, not, refl, sym, ap, ◌∙◌, subst, inl, inr, ◌⊎◌, arith}
use Rattle.std.proofs.lemmas.Bool.{cases_eq}
use Rattle.std.specs.Int.{bit_at}
use Rattle.wh_words.specs.Letters.{inverse_letter}
use Rattle.wh_words.specs.LetterSets.{in_set}
use Rattle.wh_words.specs.Moves.{IsCut}
use Rattle.wh_words.proofs.FreeReduction.{inverse-inverse}
use Rattle.wh_words.proofs.LetterMaps.{inverse_below}
use Rattle.wh_graph.proofs.SetNumbers.{mask, mask_has, mask_cut, holds, omits}

pub inverse_even : (g : ℕ) → inverse_letter (2 * g) ≡ 2 * g + 1
unfolding inverse_letter
inverse_even g = omega arith

-- A letter is a generator or the inverse of one.
pub generator_of : (a : ℕ) → (a ≡ 2 * (a / 2)) ⊎ (a ≡ inverse_letter (2 * (a / 2)))
generator_of a = elim (cases_eq (a % 2) 0) [ inl e ↦ inl (omega (arith, e)) | inr n ↦ inr (omega (arith, n, inverse_even (a / 2))) ]

-- The other letters of rank n than those of a set.
abbrev pub complement : ℕ → ℕ → ℕ
complement n set = mask (2 * n) (λ x. not (in_set set x))

twice_not : (b : Bool) → b ≡ not (not b)
twice_not true = refl
twice_not false = refl

pub complement_flips : (n set x : ℕ) → x < 2 * n → in_set set x ≡ not (in_set (complement n set) x)
complement_flips n set x l = twice_not (in_set set x) ∙ ap not (sym (mask_has (2 * n) (λ y. not (in_set set y)) x l))

-- The complement of the set of a cut makes a cut of the inverse of its multiplier.
pub complement_cut : (n a set : ℕ) → IsCut n (inverse_letter a) set → IsCut n a (complement n set)
complement_cut n a set is =
    let back : inverse_letter (inverse_letter a) ≡ a = inverse-inverse a in
    let below : a < 2 * n = subst (λ (x : ℕ). x < 2 * n) back (inverse_below n (inverse_letter a) is.of_rank) in
    let without : in_set set a ≡ false = omits set a (subst (λ (x : ℕ). bit_at set x ≡ 0) back is.omits) in
    let with : in_set set (inverse_letter a) ≡ true = holds set (inverse_letter a) is.holds in
    mask_cut n a (λ x. not (in_set set x)) below (ap not without) (ap not with)
