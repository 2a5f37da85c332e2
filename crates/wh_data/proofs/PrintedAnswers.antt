-- The text of an answer, part after part: for the functions that print it.
use Rattle.std.proofs.Common.{◌≡◌, ℕ, suc, ◌+◌, ◌<◌, List, [], ◌∷◌, ◌++◌, length, get_or, take, refl, sym, ap, ◌∙◌, append_assoc, append-nil, arith}
use Rattle.std.specs.Prelude.{codes}
use Rattle.std.proofs.lemmas.List.{length-map, map-append}
use Rattle.std.proofs.Math.Seq.{take-suc}
use Rattle.wh_words.specs.Tuples.{TupleData, Tuple}
use Rattle.wh_lines.specs.Rows.{number_row, row_text, rows_text}
use Rattle.wh_lines.proofs.PrintedRows.{rows_append}
use Rattle.wh_fields.specs.TupleFields.{words_row}
use Rattle.wh_fields.specs.MoveFields.{moves_row}
use Rattle.wh_fields.specs.FlowFields.{flow_rows}
use Rattle.wh_data.specs.AnswerData.{SideData, AnswerData, plains}
use Rattle.wh_data.specs.AnswerTexts.{side_rows, at_rows, level_rows, done_row, head_rows, body_rows, answer_text}

pub side_text : (s : SideData) → rows_text (side_rows s) ≡ row_text (moves_row (codes "trace") s.trace) ++ (row_text (words_row (codes "end") s.end.words) ++ rows_text (flow_rows s.end.rank 0 s.flows))
side_text s = refl

at_append : (ts us : List TupleData) → rows_text (at_rows (ts ++ us)) ≡ rows_text (at_rows ts) ++ rows_text (at_rows us)
at_append [] us = refl
at_append (t ∷ ts) us =
    ap (λ v. row_text (words_row (codes "at") t.words) ++ v) (at_append ts us) ∙ sym (append_assoc (row_text (words_row (codes "at") t.words)) (rows_text (at_rows ts)) (rows_text (at_rows us)))

-- one more tuple is printed
pub tuples_more : (ts : List Tuple) (k : ℕ) (t : Tuple) (out next old : List ℕ) → k < length ts → t ≡ get_or ts k t → next ≡ out ++ row_text (words_row (codes "at") t.plain.words) →
    out ≡ old ++ rows_text (at_rows (plains (take k ts))) → next ≡ old ++ rows_text (at_rows (plains (take (k + 1) ts)))
tuples_more ts k t out next old l is e h =
    let row = row_text (words_row (codes "at") t.plain.words) in
    let before = rows_text (at_rows (plains (take k ts))) in
    let plus : k + 1 ≡ suc k = omega arith in
    let front : take (k + 1) ts ≡ take k ts ++ t ∷ [] = ap (λ i. take i ts) plus ∙ take-suc ts k t l ∙ ap (λ u. take k ts ++ u ∷ []) (sym is) in
    let all : plains (take (k + 1) ts) ≡ plains (take k ts) ++ t.plain ∷ [] = ap plains front ∙ map-append (λ (u : Tuple). u.plain) (take k ts) (t ∷ []) in
    let total : before ++ row ≡ rows_text (at_rows (plains (take (k + 1) ts))) =
    sym (ap (λ v. before ++ v) (append-nil row)) ∙ sym (at_append (plains (take k ts)) (t.plain ∷ [])) ∙ ap (λ us. rows_text (at_rows us)) (sym all) in
    e ∙ ap (λ v. v ++ row) h ∙ append_assoc old before row ∙ ap (λ v. old ++ v) total

-- ---- texts one after another
pub three_texts : (old a b c : List ℕ) → ((old ++ a) ++ b) ++ c ≡ old ++ (a ++ (b ++ (c ++ [])))
three_texts old a b c =
    append_assoc (old ++ a) b c ∙ append_assoc old a (b ++ c) ∙ ap (λ v. old ++ (a ++ (b ++ v))) (sym (append-nil c))

pub five_texts : (old a b c d e : List ℕ) → ((((old ++ a) ++ b) ++ c) ++ d) ++ e ≡ old ++ (a ++ (b ++ (c ++ (d ++ (e ++ [])))))
five_texts old a b c d e = three_texts ((old ++ a) ++ b) c d e ∙ append_assoc (old ++ a) b (c ++ (d ++ (e ++ []))) ∙ append_assoc old a (b ++ (c ++ (d ++ (e ++ []))))

pub level_text : (ts : List Tuple) → rows_text (level_rows (plains ts)) ≡ row_text (number_row (codes "level") (length ts)) ++ rows_text (at_rows (plains ts))
level_text ts = ap (λ k. row_text (number_row (codes "level") k) ++ rows_text (at_rows (plains ts))) (length-map ts (λ (t : Tuple). t.plain))

pub whole_text : (a : AnswerData) → answer_text a ≡ (rows_text (head_rows a) ++ rows_text (body_rows a)) ++ codes "done\n"
unfolding answer_text
whole_text a =
    rows_append (head_rows a ++ body_rows a) (done_row ∷ []) ∙ ap (λ v. v ++ rows_text (done_row ∷ [])) (rows_append (head_rows a) (body_rows a))
