-- Letters and words are read exactly from their text: for the laws on letters and words.
use Rattle.std.proofs.Common.{◌≡◌, ◌≢◌, ℕ, ◌+◌, ◌*◌, ◌/◌, ◌%◌, ◌<◌, ◌≤◌, ◌==◌, Bool, true, false, cond, List, [], ◌∷◌, map, ap, ◌∙◌, refl, subst, arith, None, Some, Ok, Err, inl, inr}
use Rattle.std.specs.Prelude.{◌&&◌, codes}
use Rattle.std.specs.declared.option.Option.{Option}
use Rattle.std.specs.List.{All}
use Rattle.std.proofs.lemmas.List.Elements.{All-nil, All-head, All-tail}
use Rattle.std.proofs.lemmas.Bool.Decides.{nat_tests}
use Rattle.std.proofs.lemmas.Bool.{cond-false, cond_both, eqb-true, false≢true}
use lib.Pointwise.{pointwise}
use Rattle.wh_lines.specs.declared.read_error.ReadError.TheVariants as errors
use Rattle.wh_lines.specs.Readings.{◌>>=◌}
use Rattle.wh_lines.specs.Lines.{are}
use Rattle.wh_fields.specs.Words.{letter_of, letter_text, letter_at, letters_at, word_text}
use Rattle.wh_fields.specs.Laws.{ReadsLetters, ReadsWords, NamesTheFirstBadLetter, IsFirstBadLetter}
use Rattle.wh_lines.proofs.Scanning.{eq_false}
use Rattle.wh_lines.proofs.Equations.{bind_err, ok_is, both_true}
use Rattle.wh_fields.proofs.WordReadings.{text_from}

-- ---- letters
pub letter_back : (n x : ℕ) → n ≤ 26 → x < 2 * n → letter_of n (letter_text x) ≡ Some x
letter_back n x h l = grind (arith, nat_tests)

text_back : (n l c : ℕ) (xs : List ℕ) → n ≤ 26 → All (λ x. x < 2 * n) xs → letters_at n l c (map letter_text xs) ≡ Ok xs
unfolding letters_at
text_back n l c [] h a = refl
text_back n l c (x ∷ xs) h a =
    ap (λ o. letter_at l c o >>= λ y. letters_at n l (c + 1) (map letter_text xs) >>= λ ys. Ok (y ∷ ys)) (letter_back n x h (All-head (λ x. x < 2 * n) x xs a))
    ∙ ap (λ r. r >>= λ ys. Ok (x ∷ ys)) (text_back n l (c + 1) xs h (All-tail (λ x. x < 2 * n) x xs a))

pub reads_letters : ReadsLetters
reads_letters n l c bs xs h = (text_from n l c bs xs h, λ p. ap (letters_at n l c) p.0 ∙ text_back n l c xs h p.1)

-- ---- words
-- the bytes are `1`, or not
is_one : (bs : List ℕ) → (are bs (codes "1") ≡ true) → bs ≡ codes "1"
is_one [] e = absurd (cc)
is_one (b ∷ []) e = ap (λ d. d ∷ []) (eqb-true b 49 (both_true (b == 49) true e).0)
is_one (b ∷ d ∷ ds) e = absurd (false≢true (both_true (b == 49) false e).1)

word_from : (t : Bool) (n l c : ℕ) (bs xs : List ℕ) → n ≤ 26 → bs ≢ [] → (t ≡ true → bs ≡ codes "1") → cond t (Ok []) (letters_at n l c bs) ≡ Ok xs → (bs ≡ word_text xs) × All (λ x. x < 2 * n) xs
word_from true n l c bs xs h some one e =
    subst (λ (v : List ℕ). (bs ≡ word_text v) × All (λ x. x < 2 * n) v) (ok_is [] xs e) (one refl, All-nil (λ x. x < 2 * n))
word_from false n l c bs [] h some one e = absurd (some (text_from n l c bs [] h e).0)
word_from false n l c bs (x ∷ xs) h some one e = text_from n l c bs (x ∷ xs) h e

letter_above : (x : ℕ) → 65 ≤ letter_text x
letter_above x = cond_both (x % 2 == 0) (97 + x / 2) (65 + x / 2) (λ b. 65 ≤ b) (λ _. omega arith) (λ _. omega arith)

not_one : (x : ℕ) (xs : List ℕ) → are (map letter_text (x ∷ xs)) (codes "1") ≡ false
not_one x xs = ap (λ t. t && pointwise ◌==◌ (map letter_text xs) []) (eq_false (letter_text x) 49 (λ q. omega (arith, q, letter_above x)))

word_back : (n l c : ℕ) (bs xs : List ℕ) → n ≤ 26 → bs ≡ word_text xs → All (λ x. x < 2 * n) xs → cond (are bs (codes "1")) (Ok []) (letters_at n l c bs) ≡ Ok xs
word_back n l c bs [] h e a = ap (λ v. cond (are v (codes "1")) (Ok []) (letters_at n l c v)) e
word_back n l c bs (x ∷ xs) h e a =
    ap (λ v. cond (are v (codes "1")) (Ok []) (letters_at n l c v)) e
    ∙ cond-false (are (map letter_text (x ∷ xs)) (codes "1")) (Ok []) (letters_at n l c (map letter_text (x ∷ xs))) (not_one x xs)
    ∙ text_back n l c (x ∷ xs) h a

pub reads_words : ReadsWords
reads_words n l f xs h some = (word_from (are f.bytes (codes "1")) n l f.column f.bytes xs h some (is_one f.bytes), λ p. word_back n l f.column f.bytes xs h p.0 p.1)

-- ---- the first byte that is no letter
letter_fault : (n l c k : ℕ) (o : Option ℕ) → letter_at l c o ≡ Err (errors.BadLetter l k) → (o ≡ None) × (k ≡ c)
letter_fault n l c k None e = (refl, (cc))
letter_fault n l c k (Some x) e = absurd (cc)

pub first_bad_letter : NamesTheFirstBadLetter
unfolding letters_at
first_bad_letter n l c k [] e = absurd (cc)
first_bad_letter n l c k (b ∷ bs) e =
    elim (bind_err (letter_at l c (letter_of n b)) (λ x. letters_at n l (c + 1) bs >>= λ ys. Ok (x ∷ ys)) (errors.BadLetter l k) e) [
      | inl here ↦ (let p = letter_fault n l c k (letter_of n b) here in
          record { prefix = []; bad = b; suffix = bs; parts = refl; place = omega (arith, p.1); letters = []; read = refl; is_bad = p.0 })
      | inr there ↦ elim (bind_err (letters_at n l (c + 1) bs) (λ ys. Ok (there.0 ∷ ys)) (errors.BadLetter l k) there.2) [
        | inl later ↦ (let q : IsFirstBadLetter n l (c + 1) bs k = first_bad_letter n l (c + 1) k bs later in
            record { prefix = b ∷ q.prefix; bad = q.bad; suffix = q.suffix; parts = ap (λ v. b ∷ v) q.parts; place = omega (arith, q.place); letters = there.0 ∷ q.letters; read = rw (there.1, q.read) refl; is_bad = q.is_bad })
        | inr never ↦ absurd (cc)
      ]
    ]
