-- A move is read back from its text: for the law on printed answers.
use Rattle.std.proofs.Common.{◌≡◌, ◌≢◌, ℕ, zero, suc, ◌+◌, ◌*◌, ◌%◌, ◌^◌, ◌<◌, ◌≤◌, ◌==◌, leb, ltb, cond, List, [], ◌∷◌, ◌++◌, length, bit_or, sym, ap, ◌∙◌, refl, subst, arith, None, Some, inl, inr, mod-lt, mod-eq_of_lt, pow_pos, pow_mono, lt_of_not-le, lt_of_lt_of_le}
use Rattle.std.specs.Prelude.{◌&&◌, not, decimal}
use Rattle.std.specs.Option.{option_and_then}
use Rattle.std.specs.Int.{bit_at}
use Rattle.std.specs.Int.Bits.{or_shifted_r}
use Rattle.std.specs.List.{All}
use Rattle.std.proofs.lemmas.List.Elements.{All-head}
use Rattle.std.proofs.lemmas.Bool.{cases_Bool, cond-true, cond-false, eqb-true, false≢true}
use Rattle.std.proofs.lemmas.Bool.Decides.{nat_tests}
use Rattle.std.proofs.lemmas.Fmt.{decimal_nonempty}
use Rattle.std.proofs.lemmas.Nat.{mod-pow-add}
use Rattle.std.proofs.lemmas.Nat.Bits.{bit_at-lt, bit_at_above}
use Rattle.wh_words.specs.Letters.{inverse_letter}
use Rattle.wh_words.specs.LetterSets.{in_set}
use Rattle.wh_words.specs.Moves.{Kind, IsKind, IsCut}
use Rattle.wh_words.specs.Moves.Kind.{swap, invert, cut}
use Rattle.wh_fields.specs.Words.{letter_of, letter_text}
use Rattle.wh_fields.specs.MoveFields.{set_item, set_text, kind_text, letter_from, set_from, swap_of, invert_of, cut_with, cut_of, kind_from, kind_in}
use Rattle.wh_lines.proofs.Scanning.{eq_true, eq_false}
use Rattle.wh_lines.proofs.NumberLaws.{reads_numbers}
use Rattle.wh_fields.proofs.WordLaws.{letter_back}
use Rattle.wh_fields.proofs.ItemRuns.{items_from, below_is}
use Rattle.wh_fields.proofs.ShownFields.{IsDigit, decimal_digits}

-- ---- sets
-- the part of a set below a letter
next_part : (set i : ℕ) → set % 2 ^ (i + 1) ≡ bit_at set i * 2 ^ i + set % 2 ^ i
next_part set i = ap (λ k. set % 2 ^ k) (omega arith) ∙ mod-pow-add set 1 i

part_more : (set i : ℕ) → bit_at set i ≡ 1 → bit_or (set % 2 ^ i) (2 ^ i) ≡ set % 2 ^ (i + 1)
part_more set i h =
    ap (bit_or (set % 2 ^ i)) (omega arith) ∙ or_shifted_r 1 i (set % 2 ^ i) (mod-lt set (pow_pos i))
    ∙ sym (next_part set i ∙ ap (λ b. b * 2 ^ i + set % 2 ^ i) h)

part_same : (set i : ℕ) → bit_at set i ≢ 1 → set % 2 ^ i ≡ set % 2 ^ (i + 1)
part_same set i h = sym (next_part set i ∙ ap (λ b. b * 2 ^ i + set % 2 ^ i) zeroth ∙ omega arith)
  where
    zeroth : bit_at set i ≡ 0
    zeroth = omega (arith, h, bit_at-lt set i)

letter_within : (n set i : ℕ) → set < 2 ^ (2 * n) → bit_at set i ≡ 1 → i < 2 * n
letter_within n set i l h = lt_of_not-le (λ le. omega (arith, h, bit_at_above set (2 * n) i l le))

letter_rises : (n i least : ℕ) → n ≤ 26 → i < 2 * n → least ≤ i → letter_from least (letter_of n (letter_text i)) ≡ Some i
letter_rises n i least h l g = ap (letter_from least) (letter_back n i h l) ∙ cond-true (leb least i) (Some i) None (grind (arith, nat_tests))

set_on : (n set k i least : ℕ) → n ≤ 26 → set < 2 ^ (2 * n) → least ≤ i → set_from n (set % 2 ^ i) least (items_from (set_item set) i k) ≡ Some (set % 2 ^ (i + k))
unfolding set_from items_from
set_on n set zero i least h l g = ap (λ j. Some (set % 2 ^ j)) (omega arith)
set_on n set (suc k) i least h l g =
    let later = items_from (set_item set) (i + 1) k in
    elim (cases_Bool (in_set set i)) [
      | inl t ↦ (let bit = eqb-true (bit_at set i) 1 t in
          ap (λ v. set_from n (set % 2 ^ i) least (v ++ later)) (cond-true (in_set set i) (letter_text i ∷ []) [] t)
          ∙ ap (option_and_then (λ x. set_from n (bit_or (set % 2 ^ i) (2 ^ x)) (x + 1) later)) (letter_rises n i least h (letter_within n set i l bit) g)
          ∙ ap (λ s. set_from n s (i + 1) later) (part_more set i bit)
          ∙ set_on n set k (i + 1) (i + 1) h l (omega arith) ∙ ap (λ j. Some (set % 2 ^ j)) (omega arith))
      | inr f ↦ (
          ap (λ v. set_from n (set % 2 ^ i) least (v ++ later)) (cond-false (in_set set i) (letter_text i ∷ []) [] f)
          ∙ ap (λ s. set_from n s least later) (part_same set i (λ e. false≢true (sym f ∙ eq_true (bit_at set i) 1 e)))
          ∙ set_on n set k (i + 1) least h l (omega (arith, g)) ∙ ap (λ j. Some (set % 2 ^ j)) (omega arith))
    ]

pub set_back : (n set : ℕ) → n ≤ 26 → set < 2 ^ (2 * n) → set_from n 0 0 (set_text set) ≡ Some set
set_back n set h l =
    let few : 2 * n ≤ 52 = omega (arith, h) in
    let within : set < 2 ^ 52 = lt_of_lt_of_le l (pow_mono few) in
    ap (set_from n 0 0) (below_is (set_item set) 52) ∙ ap (λ s. set_from n s 0 (items_from (set_item set) 0 52)) (omega arith)
    ∙ set_on n set 52 0 0 h l (omega arith) ∙ ap (λ s. Some s) (mod-eq_of_lt within)

-- ---- kinds
-- a kind that isn't a cut has a digit second
pub number_kind : (n b k : ℕ) (bs : List ℕ) → bs ≡ decimal k → k < 2 ^ 64 → kind_from n b bs ≡ cond (b == 115) (swap_of n (Some k)) (cond (b == 105) (invert_of n (Some k)) None)
number_kind n b k [] e h = absurd (omega (arith, ap length e, decimal_nonempty k h))
number_kind n b k (d ∷ ds) e h =
    let digit : IsDigit d = All-head IsDigit d ds (subst (All IsDigit) (sym e) (decimal_digits k h)) in
    cond-false (d == 58) (cut_of n ds (letter_of n b)) _ (eq_false d 58 (λ s. omega (arith, digit.1, s)))
    ∙ ap (λ o. cond (b == 115) (swap_of n o) (cond (b == 105) (invert_of n o) None)) ((reads_numbers (d ∷ ds) k).1 (e, h))

cut_back : (n a set : ℕ) → n ≤ 26 → IsCut n a set → cut_of n (set_text set) (letter_of n (letter_text a)) ≡ Some (cut a set)
cut_back n a set h c =
    ap (cut_of n (set_text set)) (letter_back n a h c.of_rank)
    ∙ ap (cut_with a) (set_back n set h c.within)
    ∙ cond-true (in_set set a && not (in_set set (inverse_letter a))) (Some (cut a set)) None
    (ap (λ t. t && not (in_set set (inverse_letter a))) (eq_true (bit_at set a) 1 c.holds) ∙ ap (λ b. not (b == 1)) c.omits)

pub kind_back : (n : ℕ) (k : Kind) → n ≤ 26 → IsKind n k → kind_in n (kind_text k) ≡ Some k
unfolding kind_in
kind_back n (swap k) h i = number_kind n 115 k (decimal k) refl (omega (arith, h, i.1)) ∙ cond-true (ltb 0 k && ltb k n) (Some (swap k)) None (grind (arith, nat_tests))
kind_back n (invert k) h i = number_kind n 105 k (decimal k) refl (omega (arith, h, i.1)) ∙ cond-true (ltb 0 k && leb k n) (Some (invert k)) None (grind (arith, nat_tests))
kind_back n (cut a set) h i = cut_back n a set h i
