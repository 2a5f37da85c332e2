-- Levels and verdicts are read back from their rows: for the law on printed answers.
use Rattle.std.proofs.Common.{◌≡◌, ℕ, ◌^◌, ◌<◌, ◌≤◌, leb, cond, List, [], ◌∷◌, ◌++◌, length, map, ap, ◌∙◌, refl, arith, None, Some, Result, Ok, Err}
use Rattle.std.specs.Prelude.{◌&&◌, codes, decimal}
use Rattle.std.specs.List.{All}
use Rattle.std.proofs.lemmas.List.Elements.{All-nil, All-cons, All-head, All-tail}
use Rattle.std.proofs.lemmas.Bool.{cond-true}
use Rattle.std.proofs.lemmas.Bool.Decides.{nat_tests}
use Rattle.wh_words.specs.Limits.{most_level_tuples}
use Rattle.wh_words.specs.Tuples.{TupleData}
use Rattle.wh_lines.specs.declared.read_error.ReadError.{ReadError}
use Rattle.wh_lines.specs.declared.read_error.ReadError.TheVariants as errors
use Rattle.wh_lines.specs.Lines.{Field, are}
use Rattle.wh_lines.specs.Readings.{◌>>=◌, or_bad_line}
use Rattle.wh_lines.specs.LineReadings.{Reading, line_after, times}
use Rattle.wh_data.specs.AnswerData.{SideData, VerdictData}
use Rattle.wh_data.specs.AnswerData.VerdictData.{yes, no_length, no_level, undecided}
use Rattle.wh_text.specs.Certificates.{like_after, moves_after, side_after, within, number_in, level_after, VerdictWord, VerdictRead, sides_after, verdict_in, verdict_with, verdict_after}
use Rattle.wh_text.specs.Certificates.VerdictWord.{a_yes, a_no_length, a_no_level}
use Rattle.wh_fields.specs.TupleFields.{IsTupleOf, words_row}
use Rattle.wh_data.specs.AnswerParts.{IsSideOf, IsVerdictOf, verdict_heads}
use Rattle.wh_fields.specs.FlowFields.{heads_from}
use Rattle.wh_lines.proofs.Equations.{split_fields, no_fields}
use Rattle.wh_lines.proofs.NumberLaws.{reads_numbers}
use Rattle.wh_lines.specs.Rows.{Row, number_row}
use Rattle.wh_lines.proofs.PrintedRows.{IsShown, IsShownRow}
use Rattle.wh_lines.proofs.RowReadings.{ReadsRows, row_then, reads_then, reads_as, reads_by, times_none, times_more}
use Rattle.wh_fields.proofs.ShownFields.{written_shown, decimal_shown}
use Rattle.wh_fields.specs.MoveFields.{moves_row}
use Rattle.wh_data.specs.AnswerTexts.{verdict_fields, side_rows, at_rows, level_rows, verdict_row, verdict_rows}
use Rattle.wh_text.proofs.ReadSides.{moves_read, like_read, side_told, side_read}

-- ---- numbers
number_within : (least most k : ℕ) (fs : List Field) → map (λ f. f.bytes) fs ≡ decimal k ∷ [] → k < 2 ^ 64 → least ≤ k → k ≤ most → number_in least most fs ≡ Some k
number_within least most k [] e h l m = absurd (cc)
number_within least most k (f ∷ []) e h l m =
    let spelled : f.bytes ≡ decimal k = (cc) in
    ap (within least most) ((reads_numbers f.bytes k).1 (spelled, h)) ∙ cond-true (leb least k && leb k most) (Some k) None (grind (arith, nat_tests))
number_within least most k (f ∷ g ∷ fs) e h l m = absurd (cc)

-- a row with a number in this range, and what is read after it
pub number_then : {B : Type 0} (keyword : List ℕ) (least most k : ℕ) (next : ℕ × Reading → Result (B × Reading) ReadError) (y : B) (rows : List Row) →
    IsShown keyword → k < 2 ^ 64 → least ≤ k → k ≤ most → ReadsRows (λ p. next (k, p)) y rows →
    ReadsRows (λ p. line_after keyword p >>= λ q. or_bad_line q.0.number (number_in least most q.0.fields) >>= λ n. next (n, q.1)) y (number_row keyword k ∷ rows)
number_then keyword least most k next y rows s h l m later =
    row_then (number_row keyword k) (λ q. or_bad_line q.0.number (number_in least most q.0.fields) >>= λ n. next (n, q.1)) y rows
    (record { keyword = s; fields = All-cons IsShown (decimal k) [] (decimal_shown k h) (All-nil IsShown) })
    (λ q t. reads_by (λ p. next (k, p)) (λ p. or_bad_line q.number (number_in least most q.fields) >>= λ n. next (n, p)) y rows
    (λ p. ap (λ o. or_bad_line q.number o >>= λ n. next (n, p)) (number_within least most k q.fields t.same h l m)) later)

-- ---- levels
tuples_read : (n count : ℕ) (ts : List TupleData) → n ≤ 26 → All (IsTupleOf n count) ts → ReadsRows (times (like_after (codes "at") n count) (length ts)) ts (at_rows ts)
tuples_read n count [] h a = times_none (like_after (codes "at") n count)
tuples_read n count (t ∷ ts) h a =
    times_more (like_after (codes "at") n count) (length ts) t ts (words_row (codes "at") t.words ∷ []) (at_rows ts)
    (like_read (codes "at") n count t (written_shown 97 (codes "t") refl) h (All-head (IsTupleOf n count) t ts a))
    (tuples_read n count ts h (All-tail (IsTupleOf n count) t ts a))

pub level_read : (n count : ℕ) (ts : List TupleData) → n ≤ 26 → All (IsTupleOf n count) ts → 1 ≤ length ts → length ts ≤ most_level_tuples → ReadsRows (level_after n count) ts (level_rows ts)
unfolding level_after
level_read n count ts h a l m =
    number_then (codes "level") 1 most_level_tuples (length ts) (λ q. times (like_after (codes "at") n count) q.0 q.1) ts (at_rows ts)
    (written_shown 108 (codes "evel") refl) (omega (arith, m)) l m (tuples_read n count ts h a)

-- ---- verdicts
-- a word of one field, or of two
one_word : (l : ℕ) (fs : List Field) → map (λ f. f.bytes) fs ≡ codes "yes" ∷ [] → verdict_in l fs ≡ Ok a_yes
unfolding verdict_in
one_word l fs e =
    let s = split_fields fs (codes "yes") [] e in
    ap (verdict_in l) (s.2 ∙ ap (λ gs. s.0 ∷ gs) (no_fields s.1 s.4)) ∙ ap (λ w. cond (are w (codes "yes")) (Ok a_yes) (Err (errors.BadLine l))) s.3

two_words : (l : ℕ) (fs : List Field) (v w : List ℕ) → map (λ f. f.bytes) fs ≡ v ∷ w ∷ [] →
    verdict_in l fs ≡ cond (are v (codes "no") && are w (codes "length")) (Ok a_no_length) (cond (are v (codes "no") && are w (codes "level")) (Ok a_no_level) (Err (errors.BadLine l)))
unfolding verdict_in
two_words l fs v w e =
    let s = split_fields fs v (w ∷ []) e in
    let t = split_fields s.1 w [] s.4 in
    let told : List ℕ → List ℕ → Result VerdictWord ReadError = λ v w.
    cond (are v (codes "no") && are w (codes "length")) (Ok a_no_length) (cond (are v (codes "no") && are w (codes "level")) (Ok a_no_level) (Err (errors.BadLine l))) in
    ap (verdict_in l) (s.2 ∙ ap (λ gs. s.0 ∷ gs) (t.2 ∙ ap (λ gs. t.0 ∷ gs) (no_fields t.1 t.4)))
    ∙ ap (λ u. told u t.0.bytes) s.3 ∙ ap (told v) t.3

verdict_shown : (v : VerdictData) → All IsShown (verdict_fields v) → IsShownRow (verdict_row v)
verdict_shown v a = record { keyword = written_shown 118 (codes "erdict") refl; fields = a }

-- what is read after a `verdict` row
verdict_then : (n count : ℕ) (told : VerdictData) (word : VerdictWord) (v : VerdictRead) (rows : List Row) → All IsShown (verdict_fields told) →
    ((l : ℕ) (gs : List Field) → map (λ f. f.bytes) gs ≡ verdict_fields told → verdict_in l gs ≡ Ok word) → ReadsRows (verdict_with n count word) v rows → ReadsRows (verdict_after n count) v (verdict_row told ∷ rows)
unfolding verdict_after
verdict_then n count given word v rows a told later =
    row_then (verdict_row given) (λ k. verdict_in k.0.number k.0.fields >>= λ w. verdict_with n count w k.1) v rows (verdict_shown given a)
    (λ k t. reads_by (verdict_with n count word) (λ p. verdict_in k.number k.fields >>= λ w. verdict_with n count w p) v rows
    (λ p. ap (λ r. r >>= λ w. verdict_with n count w p) (told k.number k.fields t.same)) later)

sides_read : (n count : ℕ) (a b : SideData) → n ≤ 26 → IsSideOf n count a → IsSideOf n count b → ReadsRows (sides_after n count) (side_told a, side_told b) (side_rows a ++ side_rows b)
unfolding sides_after
sides_read n count a b h i j =
    reads_then (side_after n count) (λ a. side_after n count a.1 >>= λ b. Ok ((a.0, b.0), b.1)) (side_told a) (side_told a, side_told b) (side_rows a) (side_rows b)
    (side_read n count a h i)
    (reads_as (side_after n count) (λ b. Ok ((side_told a, b.0), b.1)) (side_told b) (side_told a, side_told b) (side_rows b) (side_read n count b h j) (λ p. refl))

pub verdict_read : (n count : ℕ) (v : VerdictData) → n ≤ 26 → IsVerdictOf n count v → ReadsRows (verdict_after n count) (record { verdict = v; heads = verdict_heads v }) (verdict_row v ∷ verdict_rows v)
verdict_read n count (yes ms) h i =
    let told : VerdictRead = record { verdict = yes ms; heads = [] } in
    verdict_then n count (yes ms) a_yes told (moves_row (codes "moves") ms ∷ [])
    (All-cons IsShown (codes "yes") [] (written_shown 121 (codes "es") refl) (All-nil IsShown)) one_word
    (reads_as (moves_after (codes "moves") n) (λ ms. Ok (record { verdict = yes ms.0; heads = [] }, ms.1)) ms told (moves_row (codes "moves") ms ∷ [])
    (moves_read (codes "moves") n ms (written_shown 109 (codes "oves") refl) h i) (λ p. refl))
verdict_read n count (no_length a b) h i =
    let told : VerdictRead = record { verdict = no_length a b; heads = heads_from 0 a.flows ++ heads_from 0 b.flows } in
    verdict_then n count (no_length a b) a_no_length told (side_rows a ++ side_rows b)
    (All-cons IsShown (codes "no") (codes "length" ∷ []) (written_shown 110 (codes "o") refl)
    (All-cons IsShown (codes "length") [] (written_shown 108 (codes "ength") refl) (All-nil IsShown)))
    (λ l gs e. two_words l gs (codes "no") (codes "length") e)
    (reads_as (sides_after n count) (λ s. Ok (record { verdict = no_length s.0.0.side s.0.1.side; heads = s.0.0.heads ++ s.0.1.heads }, s.1)) (side_told a, side_told b) told (side_rows a ++ side_rows b)
    (sides_read n count a b h i.0 i.1) (λ p. refl))
verdict_read n count (no_level a b ts) h i =
    let told : VerdictRead = record { verdict = no_level a b ts; heads = heads_from 0 a.flows ++ heads_from 0 b.flows } in
    verdict_then n count (no_level a b ts) a_no_level told ((side_rows a ++ side_rows b) ++ level_rows ts)
    (All-cons IsShown (codes "no") (codes "level" ∷ []) (written_shown 110 (codes "o") refl)
    (All-cons IsShown (codes "level") [] (written_shown 108 (codes "evel") refl) (All-nil IsShown)))
    (λ l gs e. two_words l gs (codes "no") (codes "level") e)
    (reads_then (sides_after n count)
    (λ s. level_after n count s.1 >>= λ ts. Ok (record { verdict = no_level s.0.0.side s.0.1.side ts.0; heads = s.0.0.heads ++ s.0.1.heads }, ts.1))
    (side_told a, side_told b) told (side_rows a ++ side_rows b) (level_rows ts) (sides_read n count a b h i.0 i.1)
    (reads_as (level_after n count) (λ ts. Ok (record { verdict = no_level a b ts.0; heads = heads_from 0 a.flows ++ heads_from 0 b.flows }, ts.1)) ts told (level_rows ts)
    (level_read n count ts h i.2 i.3 i.4) (λ p. refl)))
verdict_read n count (undecided bound) h i = absurd i
