-- A number is read exactly from its decimal digits: for the law on numbers.
use Rattle.std.proofs.Common.{◌≡◌, ◌≢◌, ℕ, ◌+◌, ◌-◌, ◌*◌, ◌^◌, ◌<◌, ◌≤◌, ◌==◌, Bool, true, false, cond, List, [], ◌∷◌, length, get_or, sym, ap, ◌∙◌, refl, arith, None, Some, inl, inr, rules}
use Rattle.std.specs.Prelude.{leb, ◌&&◌, decimal}
use Rattle.std.specs.declared.option.Option.{Option}
use Rattle.std.specs.Option.{option_and_then}
use Rattle.std.proofs.lemmas.Bool.Decides.{nat_tests}
use Rattle.std.proofs.lemmas.Bool.{cond-false, cases_eq, eqb-true, false≢true}
use Rattle.std.proofs.lemmas.List.{nil_from_length}
use Rattle.std.proofs.lemmas.Str.Parse.{IsNumeralModel, numerals_by_fold}
use Rattle.std.proofs.lemmas.Fmt.{decimal-digits_value, digits_decimal, digits_value-decimal, decimal_digit, decimal_nonempty, first_decimal}
use Rattle.wh_lines.specs.Numbers.{number, next_digit, digits_from}
use Rattle.wh_lines.specs.Laws.{ReadsNumbers}
use Rattle.wh_lines.proofs.Scanning.{eq_true, eq_false}
use Rattle.wh_lines.proofs.Equations.{both_true}

abbrev pub all_digits : List ℕ → Bool
all_digits [] = true
all_digits (b ∷ bs) = (leb 48 b && leb b 57) && all_digits bs

abbrev pub read_on : ℕ → List ℕ → ℕ
read_on n [] = n
read_on n (b ∷ bs) = read_on (n * 10 + (b - 48)) bs

own : IsNumeralModel (λ ds. all_digits ds ≡ true) (read_on 0)
own = numerals_by_fold _ (search rules) read_on (search rules)

grows : (n : ℕ) (bs : List ℕ) → n ≤ read_on n bs
grows n [] = omega arith
grows n (b ∷ bs) = omega (arith, grows (n * 10 + (b - 48)) bs)

digit_is : (n b m : ℕ) → next_digit n b ≡ Some m → ((leb 48 b && leb b 57) ≡ true) × (m ≡ n * 10 + (b - 48)) × (m < 2 ^ 64)
digit_is n b m e = grind (arith, nat_tests)

digit_back : (n b : ℕ) → (leb 48 b && leb b 57) ≡ true → n * 10 + (b - 48) < 2 ^ 64 → next_digit n b ≡ Some (n * 10 + (b - 48))
digit_back n b e h = grind (arith, nat_tests)

and_then_some : (f : ℕ → Option ℕ) (o : Option ℕ) (m : ℕ) → option_and_then f o ≡ Some m → (k : ℕ) × (o ≡ Some k) × (f k ≡ Some m)
and_then_some f None m e = absurd (cc)
and_then_some f (Some k) m e = (k, refl, e)

digits_are : (n : ℕ) (bs : List ℕ) (m : ℕ) → n < 2 ^ 64 → digits_from n bs ≡ Some m → (all_digits bs ≡ true) × (m ≡ read_on n bs) × (m < 2 ^ 64)
unfolding digits_from
digits_are n [] m h e = let s : n ≡ m = (cc) in (refl, sym s, omega (arith, s))
digits_are n (b ∷ bs) m h e =
    let p = and_then_some (λ k. digits_from k bs) (next_digit n b) m e in
    let d = digit_is n b p.0 p.1 in
    let r = digits_are p.0 bs m d.2 p.2 in
    (rw (d.0, r.0) refl, r.1 ∙ ap (λ k. read_on k bs) d.1, r.2)

digits_back : (n : ℕ) (bs : List ℕ) → all_digits bs ≡ true → read_on n bs < 2 ^ 64 → digits_from n bs ≡ Some (read_on n bs)
unfolding digits_from
digits_back n [] a h = refl
digits_back n (b ∷ bs) a h =
    let t = both_true (leb 48 b && leb b 57) (all_digits bs) a in
    ap (option_and_then (λ k. digits_from k bs)) (digit_back n b t.0 (omega (arith, grows (n * 10 + (b - 48)) bs, h))) ∙ digits_back (n * 10 + (b - 48)) bs t.1 h

some_is : (x y : ℕ) → ◌≡◌ {A = Option ℕ} (Some x) (Some y) → x ≡ y
some_is x y e = cc

number_from : (bs : List ℕ) (n : ℕ) → number bs ≡ Some n → (bs ≡ decimal n) × (n < 2 ^ 64)
number_from [] n e = absurd (cc)
number_from (b ∷ bs) n e = by (b == 48) (length bs == 0) (λ t. eqb-true b 48 t) (λ t z. false≢true (sym t ∙ eq_true b 48 z)) (λ t. nil_from_length bs (eqb-true (length bs) 0 t)) e
  where
    by : (s t : Bool) → (s ≡ true → b ≡ 48) → (s ≡ false → b ≢ 48) → (t ≡ true → bs ≡ []) → cond s (cond t (Some 0) None) (digits_from 0 (b ∷ bs)) ≡ Some n → (b ∷ bs ≡ decimal n) × (n < 2 ^ 64)
    by true true zero other nil e =
        let z : 0 ≡ n = some_is 0 n e in
        (ap (λ v. b ∷ v) (nil refl) ∙ ap (λ d. d ∷ []) (zero refl) ∙ sym (decimal_digit 0 (omega arith)) ∙ ap decimal z, omega (arith, z))
    by true false zero other nil e = absurd (cc)
    by false t zero other nil e =
        let d = digits_are 0 (b ∷ bs) n (omega arith) e in
        (sym (decimal-digits_value own (b ∷ bs) d.0 (omega arith) (λ z. absurd (other refl z)) (omega (arith, d.1, d.2))) ∙ ap decimal (sym d.1), d.2)

number_zero : (bs : List ℕ) → bs ≡ 48 ∷ [] → number bs ≡ Some 0
number_zero bs e = ap number e

number_back : (n : ℕ) (bs : List ℕ) → bs ≡ decimal n → n < 2 ^ 64 → number bs ≡ Some n
number_back n [] e h = absurd (omega (arith, ap length e, decimal_nonempty n h))
number_back n (b ∷ bs) e h =
    elim (cases_eq n 0) [
      | inl z ↦ number_zero (b ∷ bs) (e ∙ ap decimal z ∙ decimal_digit 0 (omega arith)) ∙ ap (λ k. Some k) (sym z)
      | inr p ↦ (
          let first : 48 < b = omega (arith, first_decimal n (omega (arith, p)) h, ap (λ v. get_or v 0 0) e) in
          let digits : all_digits (b ∷ bs) ≡ true = ap all_digits e ∙ digits_decimal own n h in
          let value : read_on 0 (b ∷ bs) ≡ n = ap (read_on 0) e ∙ digits_value-decimal own n h in
          cond-false (b == 48) (cond (length bs == 0) (Some 0) None) (digits_from 0 (b ∷ bs)) (eq_false b 48 (λ q. omega (arith, q, first)))
          ∙ digits_back 0 (b ∷ bs) digits (omega (arith, value, h)) ∙ ap (λ k. Some k) value)
    ]

pub reads_numbers : ReadsNumbers
reads_numbers bs n = (number_from bs n, λ p. number_back n bs p.0 p.1)
