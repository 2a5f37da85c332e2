-- The bytes of the fields that are printed: for the law on printed answers.
use Rattle.std.proofs.Common.{◌≡◌, ℕ, ◌+◌, ◌*◌, ◌/◌, ◌%◌, ◌^◌, ◌<◌, ◌≤◌, ◌==◌, leb, Bool, true, List, [], ◌∷◌, ◌++◌, length, map, ap, refl, subst, sym, arith}
use Rattle.std.specs.Prelude.{◌&&◌, ◌||◌, codes, decimal}
use Rattle.std.specs.List.{All, list_all}
use Rattle.std.proofs.lemmas.List.Elements.{All-nil, All-cons, All-head, All-tail, All-push, All-weaker}
use Rattle.std.proofs.lemmas.Bool.{cond_both}
use Rattle.std.proofs.lemmas.Fmt.{decimal_by_steps, decimal_nonempty}
use Rattle.std.proofs.lemmas.Bool.Decides.{nat_tests}
use Rattle.wh_words.specs.LetterSets.{in_set}
use Rattle.wh_words.specs.Words.{IsOfRank}
use Rattle.wh_words.specs.Moves.{Kind, IsKind}
use Rattle.wh_words.specs.Moves.Kind.{swap, invert, cut}
use Rattle.wh_flow.specs.Tables.{cell}
use Rattle.wh_fields.specs.Words.{letter_text, word_text}
use Rattle.wh_fields.specs.MoveFields.{set_item, set_text, kind_text}
use Rattle.wh_fields.specs.FlowFields.{flow_value, IsFlowOf, pair_item, pair_fields, flow_row}
use Rattle.wh_lines.proofs.Equations.{both_true, not_nil}
use Rattle.wh_lines.proofs.PrintedRows.{IsShownByte, IsShown, IsShownRow}
use Rattle.wh_fields.proofs.ItemRuns.{items_from, pair_fields_are, below_is, items_all}

-- a field of a first byte and others
pub shown_from : (b : ℕ) (bs : List ℕ) → IsShownByte b → All IsShownByte bs → IsShown (b ∷ bs)
shown_from b bs h a = record { some = not_nil b bs; bytes = All-cons IsShownByte b bs h a }

-- ---- words that are written out
abbrev pub is_shown_byte : ℕ → Bool
is_shown_byte b = leb 48 b && leb b 122

shown_byte : (b : ℕ) → is_shown_byte b ≡ true → IsShownByte b
shown_byte b e = (grind (arith, nat_tests), grind (arith, nat_tests))

bytes_shown : (bs : List ℕ) → list_all is_shown_byte bs ≡ true → All IsShownByte bs
bytes_shown [] e = All-nil IsShownByte
bytes_shown (b ∷ bs) e =
    let p = both_true (is_shown_byte b) (list_all is_shown_byte bs) e in
    All-cons IsShownByte b bs (shown_byte b p.0) (bytes_shown bs p.1)

pub written_shown : (b : ℕ) (bs : List ℕ) → list_all is_shown_byte (b ∷ bs) ≡ true → IsShown (b ∷ bs)
written_shown b bs e = record { some = not_nil b bs; bytes = bytes_shown (b ∷ bs) e }

-- ---- letters
pub letter_shown : (x : ℕ) → x < 52 → IsShownByte (letter_text x)
letter_shown x h = cond_both (x % 2 == 0) (97 + x / 2) (65 + x / 2) IsShownByte (λ _. (omega arith, omega (arith, h))) (λ _. (omega arith, omega (arith, h)))

letters_shown : (xs : List ℕ) → All (λ x. x < 52) xs → All IsShownByte (map letter_text xs)
letters_shown [] a = All-nil IsShownByte
letters_shown (x ∷ xs) a =
    All-cons IsShownByte (letter_text x) (map letter_text xs) (letter_shown x (All-head (λ x. x < 52) x xs a)) (letters_shown xs (All-tail (λ x. x < 52) x xs a))

pub word_shown : (n : ℕ) (w : List ℕ) → n ≤ 26 → IsOfRank n w → IsShown (word_text w)
word_shown n [] h a = shown_from 49 [] (omega arith, omega arith) (All-nil IsShownByte)
word_shown n (x ∷ xs) h a =
    record { some = not_nil (letter_text x) (map letter_text xs); bytes = letters_shown (x ∷ xs) (All-weaker (λ x. x < 2 * n) (λ x. x < 52) (λ x l. omega (arith, h, l)) (x ∷ xs) a) }

-- ---- numbers
abbrev pub IsDigit : ℕ → Type 0
IsDigit b = (48 ≤ b) × (b ≤ 57)

pub decimal_digits : (n : ℕ) → n < 2 ^ 64 → All IsDigit (decimal n)
decimal_digits =
    decimal_by_steps (λ n ds. All IsDigit ds) (λ n h. All-cons IsDigit (48 + n) [] (omega arith, omega (arith, h)) (All-nil IsDigit))
    (λ n ds h a. All-push IsDigit ds (48 + n % 10) a (omega arith, omega arith))

digits_shown : (n : ℕ) → n < 2 ^ 64 → All IsShownByte (decimal n)
digits_shown n h = All-weaker IsDigit IsShownByte (λ b d. (d.0, omega (arith, d.1))) (decimal n) (decimal_digits n h)

pub decimal_shown : (n : ℕ) → n < 2 ^ 64 → IsShown (decimal n)
decimal_shown n h = record { some = λ e. omega (arith, ap length e, decimal_nonempty n h); bytes = digits_shown n h }

-- ---- kinds of moves
set_item_shown : (set x : ℕ) → x < 52 → All IsShownByte (set_item set x)
set_item_shown set x h =
    cond_both (in_set set x) (letter_text x ∷ []) [] (All IsShownByte) (λ _. All-cons IsShownByte (letter_text x) [] (letter_shown x h) (All-nil IsShownByte)) (λ _. All-nil IsShownByte)

set_shown : (set : ℕ) → All IsShownByte (set_text set)
set_shown set = subst (All IsShownByte) (sym (below_is (set_item set) 52)) (items_all IsShownByte (set_item set) 0 52 52 refl (set_item_shown set))

pub kind_shown : (n : ℕ) (k : Kind) → n ≤ 26 → IsKind n k → IsShown (kind_text k)
kind_shown n (swap k) h i = shown_from 115 (decimal k) (omega arith, omega arith) (digits_shown k (omega (arith, h, i.1)))
kind_shown n (invert k) h i = shown_from 105 (decimal k) (omega arith, omega arith) (digits_shown k (omega (arith, h, i.1)))
kind_shown n (cut a set) h i =
    shown_from (letter_text a) (codes ":" ++ set_text set) (letter_shown a (omega (arith, h, i.of_rank))) (All-cons IsShownByte 58 (set_text set) (omega arith, omega arith) (set_shown set))

-- ---- flows
pair_shown : (x y v : ℕ) → x < 52 → y < 52 → v < 2 ^ 32 → IsShown (letter_text x ∷ letter_text y ∷ codes ":" ++ decimal v)
pair_shown x y v h g l =
    shown_from (letter_text x) (letter_text y ∷ codes ":" ++ decimal v) (letter_shown x h)
    (All-cons IsShownByte (letter_text y) (codes ":" ++ decimal v) (letter_shown y g) (All-cons IsShownByte 58 (decimal v) (omega arith, omega arith) (digits_shown v (omega (arith, l)))))

pair_item_shown : (f : List ℕ) (x y : ℕ) → x < 52 → y < 52 → cell f x y < 2 ^ 32 → All IsShown (pair_item f x y)
pair_item_shown f x y h g l =
    let w = letter_text x ∷ letter_text y ∷ codes ":" ++ decimal (cell f x y) in
    cond_both ((x == y) || (cell f x y == 0)) [] (w ∷ []) (All IsShown) (λ _. All-nil IsShown) (λ _. All-cons IsShown w [] (pair_shown x y (cell f x y) h g l) (All-nil IsShown))

pairs_shown : (n g : ℕ) (f : List ℕ) → n ≤ 26 → IsFlowOf n g f → All IsShown (pair_fields n f)
pairs_shown n g f h i =
    subst (All IsShown) (sym (pair_fields_are n f)) (items_all IsShown (λ x. items_from (pair_item f x) 0 (2 * n)) 0 (2 * n) (2 * n) (omega arith) (λ x l.
    items_all IsShown (pair_item f x) 0 (2 * n) (2 * n) (omega arith) (λ y m.
    let a : x < 52 = omega (arith, h, l) in
    let b : y < 52 = omega (arith, h, m) in
    pair_item_shown f x y a b (i.small x y a b))))

pub flow_shown : (n g : ℕ) (f : List ℕ) → n ≤ 26 → g < n → IsFlowOf n g f → IsShownRow (flow_row n (2 * g) f)
flow_shown n g f h l i =
    let v = flow_value f (2 * g) in
    record {
      keyword = written_shown 102 (codes "low") refl;
      fields =
          All-cons IsShown (letter_text (2 * g) ∷ []) (decimal v ∷ pair_fields n f) (shown_from (letter_text (2 * g)) [] (letter_shown (2 * g) (omega (arith, h, l))) (All-nil IsShownByte))
          (All-cons IsShown (decimal v) (pair_fields n f) (decimal_shown v (omega (arith, i.value.least, i.value.below))) (pairs_shown n g f h i));
    }
