-- Sets by tests, and the cuts of a rank.
use Rattle.std.proofs.Common.{◌≡◌, ◌≢◌, ℕ, ◌*◌, ◌^◌, ◌<◌, ◌≤◌, ◌==◌, Bool, true, false, not, refl, sym, ap, inl, inr, ◌∙◌, arith, eq-eqb, ne_eqb, map}
use Rattle.std.proofs.lemmas.Bool.{cases_lt, true≢false}
use Rattle.std.proofs.lemmas.Nat.Bits.{bit_at_above, bit_at-lt}
use Rattle.std.proofs.lemmas.List.Elements.{All-map, All-filter, filter_passes}
use Rattle.std.specs.Int.{bit_at}
use Rattle.std.specs.List.{All, filter}
use Rattle.wh_words.specs.Letters.{inverse_letter}
use Rattle.wh_words.specs.LetterSets.{in_set}
use Rattle.wh_words.specs.Moves.{IsCut}
use Rattle.wh_words.proofs.FreeReduction.{inverse-other}
use Rattle.wh_graph.specs.SetMasks.{mask}
use Rattle.wh_graph.proofs.SetNumbers.{mask_lt, mask_has, mask_cut, holds, omits, holds_back, subset_le}
use Rattle.wh_relators.specs.Cuts.{Cut, letters, sets, parts, cuts, all_but}
use Rattle.wh_relators.proofs.Lists.{and_first, and_second, All-flat_map, All-both, All-range}

-- A letter past the rank is in no set of the rank.
pub past_rank : (n set x : ℕ) → set < 2 ^ (2 * n) → 2 * n ≤ x → in_set set x ≡ false
past_rank n set x below l = omits set x (bit_at_above set (2 * n) x below l)

pub lacks_back : (set x : ℕ) → in_set set x ≡ false → bit_at set x ≢ 1
lacks_back set x h e = true≢false (sym (holds set x e) ∙ h)

-- Sets with the same letters of the rank are one.
pub same_sets : (n A B : ℕ) → A < 2 ^ (2 * n) → B < 2 ^ (2 * n) → ((x : ℕ) → x < 2 * n → in_set A x ≡ in_set B x) → A ≡ B
same_sets n A B a b h = omega (arith, half A B a h, half B A b (λ x l. sym (h x l)))
  where
    half : (C D : ℕ) → C < 2 ^ (2 * n) → ((x : ℕ) → x < 2 * n → in_set C x ≡ in_set D x) → C ≤ D
    half C D c k = subset_le (2 * n) C D c (λ x e. elim (cases_lt x (2 * n)) [
      | inl l ↦ holds_back D x (sym (k x l) ∙ holds C x e)
      | inr g ↦ absurd (lacks_back C x (past_rank n C x c g) e)
    ])

-- The set of a test is the set that has the letters which pass it.
pub mask-is : (n set : ℕ) (test : ℕ → Bool) → set < 2 ^ (2 * n) → ((x : ℕ) → x < 2 * n → in_set set x ≡ test x) → mask (2 * n) test ≡ set
mask-is n set test below h = same_sets n (mask (2 * n) test) set (mask_lt (2 * n) test) below (λ x l. mask_has (2 * n) test x l ∙ sym (h x l))

-- Of equal sets of tests, the tests agree on letters of the rank.
pub mask-same : (n : ℕ) (f g : ℕ → Bool) → mask (2 * n) f ≡ mask (2 * n) g → (x : ℕ) → x < 2 * n → f x ≡ g x
mask-same n f g e x l = sym (mask_has (2 * n) f x l) ∙ (ap (λ s. in_set s x) e ∙ mask_has (2 * n) g x l)

pub no_letters : (x : ℕ) → in_set 0 x ≡ false
no_letters x = past_rank 0 0 x (omega arith) (omega arith)

pub mask-empty : (n : ℕ) (f : ℕ → Bool) → mask (2 * n) f ≡ 0 → (x : ℕ) → x < 2 * n → f x ≡ false
mask-empty n f e x l = sym (mask_has (2 * n) f x l) ∙ (ap (λ s. in_set s x) e ∙ no_letters x)

-- ---- cuts
-- A cut of rank n, with a set of letters of the rank.
abbrev pub Cuts : ℕ → Cut → Type 0
Cuts n x = IsCut n x.mult x.set

pub parts_holds : (a set : ℕ) → parts a set ≡ true → in_set set a ≡ true
parts_holds a set h = and_first (in_set set a) (not (in_set set (inverse_letter a))) h

pub from_not : (p : Bool) → not p ≡ true → p ≡ false
from_not true h = sym h
from_not false h = refl

pub parts_omits : (a set : ℕ) → parts a set ≡ true → in_set set (inverse_letter a) ≡ false
parts_omits a set h = from_not (in_set set (inverse_letter a)) (and_second (in_set set a) (not (in_set set (inverse_letter a))) h)

pub omits_back : (set x : ℕ) → in_set set x ≡ false → bit_at set x ≡ 0
omits_back set x h = omega (arith, bit_at-lt set x, lacks_back set x h)

pub made_cut : (n a set : ℕ) → a < 2 * n → set < 2 ^ (2 * n) → parts a set ≡ true → IsCut n a set
made_cut n a set l below h = record {
  of_rank = l;
  within = below;
  holds = holds_back set a (parts_holds a set h);
  omits = omits_back set (inverse_letter a) (parts_omits a set h);
}

pub cuts-are : (n : ℕ) → All (Cuts n) (cuts n)
unfolding cuts
cuts-are n = All-flat_map (Cuts n) (λ a. map (λ set. record { mult = a; set = set }) (filter (parts a) (sets n))) (letters n)
    (All-range (λ a. All (Cuts n) (map (λ set. record { mult = a; set = set }) (filter (parts a) (sets n)))) 0 (2 * n) (λ a h l.
    All-map (Cuts n) (λ set. record { mult = a; set = set }) (filter (parts a) (sets n))
    (All-both (λ set. set < 2 ^ (2 * n)) (λ set. parts a set ≡ true) (λ set. IsCut n a set) (λ set below p. made_cut n a set (omega (arith, l)) below p) (filter (parts a) (sets n))
    (All-filter (parts a) (λ set. set < 2 ^ (2 * n)) (sets n) (All-range (λ set. set < 2 ^ (2 * n)) 0 (2 ^ (2 * n)) (λ set k r. omega (arith, r))))
    (filter_passes (parts a) (sets n)))))

pub letters-are : (n : ℕ) → All (λ x. x < 2 * n) (letters n)
letters-are n = All-range (λ x. x < 2 * n) 0 (2 * n) (λ x h l. omega (arith, l))

pub inner-cut : (n a : ℕ) → a < 2 * n → IsCut n a (all_but n (inverse_letter a))
inner-cut n a l = mask_cut n a (λ x. not (x == inverse_letter a)) l (ap not (ne_eqb a (inverse_letter a) (λ e. inverse-other a (sym e)))) (ap not (eq-eqb (inverse_letter a) (inverse_letter a) refl))
