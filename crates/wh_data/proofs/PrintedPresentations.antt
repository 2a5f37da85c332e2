-- The text of what presents a stabiliser, line after line: for the functions that print it.
use Rattle.std.proofs.Common.{◌≡◌, ℕ, ◌+◌, ◌<◌, ◌≤◌, List, [], ◌∷◌, ◌++◌, map, length, get_or, drop, sym, ap, ◌∙◌, append_assoc, append-nil}
use Rattle.std.specs.Prelude.{Option}
use Rattle.std.proofs.lemmas.List.{drop_more, drop_all}
use Rattle.wh_words.specs.Moves.{Move}
use Rattle.wh_lines.specs.Rows.{Row, row_text, rows_text}
use Rattle.wh_lines.proofs.PrintedRows.{rows_append}
use Rattle.wh_data.specs.PresentationTexts.{entry_rows, tree_rows}

pub one_row : (r : Row) → rows_text (r ∷ []) ≡ row_text r
one_row r = append-nil (row_text r)

-- one more piece of what is left is printed
piece_more : (whole out piece left next : List ℕ) → next ≡ out ++ piece → out ++ (piece ++ left) ≡ whole → next ++ left ≡ whole
piece_more whole out piece left next e h = ap (λ v. v ++ left) e ∙ append_assoc out piece left ∙ h

-- ---- a row for each item
pub each_more : {A : Type 0} (row : A → Row) (xs : List A) (i : ℕ) (x : A) (whole out next : List ℕ) → i < length xs → x ≡ get_or xs i x → next ≡ out ++ row_text (row x) →
    out ++ rows_text (map row (drop i xs)) ≡ whole → next ++ rows_text (map row (drop (i + 1) xs)) ≡ whole
each_more row xs i x whole out next lt is e h =
    piece_more whole out (row_text (row x)) (rows_text (map row (drop (i + 1) xs))) next e
    (ap (λ y. out ++ rows_text (map row (y ∷ drop (i + 1) xs))) is ∙ sym (ap (λ ys. out ++ rows_text (map row ys)) (drop_more xs i x lt)) ∙ h)

pub each_end : {A : Type 0} (row : A → Row) (xs : List A) (i : ℕ) (whole out : List ℕ) → length xs ≤ i → out ++ rows_text (map row (drop i xs)) ≡ whole → out ≡ whole
each_end row xs i whole out le h = sym (append-nil out) ∙ sym (ap (λ ys. out ++ rows_text (map row ys)) (drop_all i xs le)) ∙ h

-- ---- a tree
pub tree_more : (es : List (Option (ℕ × Move))) (i : ℕ) (e : Option (ℕ × Move)) (whole out next : List ℕ) → i < length es → e ≡ get_or es i e → next ≡ out ++ rows_text (entry_rows i e) →
    out ++ rows_text (tree_rows i (drop i es)) ≡ whole → next ++ rows_text (tree_rows (i + 1) (drop (i + 1) es)) ≡ whole
tree_more es i e whole out next lt is p h =
    let left = tree_rows (i + 1) (drop (i + 1) es) in
    piece_more whole out (rows_text (entry_rows i e)) (rows_text left) next p
    (ap (λ v. out ++ v) (sym (rows_append (entry_rows i e) left)) ∙ ap (λ d. out ++ rows_text (entry_rows i d ++ left)) is
    ∙ sym (ap (λ ds. out ++ rows_text (tree_rows i ds)) (drop_more es i e lt)) ∙ h)

pub tree_end : (es : List (Option (ℕ × Move))) (i : ℕ) (whole out : List ℕ) → length es ≤ i → out ++ rows_text (tree_rows i (drop i es)) ≡ whole → out ≡ whole
tree_end es i whole out le h = sym (append-nil out) ∙ sym (ap (λ ds. out ++ rows_text (tree_rows i ds)) (drop_all i es le)) ∙ h

-- ---- three parts, one after another
pub three_parts : (old : List ℕ) (a b c : List Row) → ((old ++ rows_text a) ++ rows_text b) ++ rows_text c ≡ old ++ rows_text ((a ++ b) ++ c)
three_parts old a b c =
    append_assoc (old ++ rows_text a) (rows_text b) (rows_text c) ∙ append_assoc old (rows_text a) (rows_text b ++ rows_text c)
    ∙ ap (λ v. old ++ v) (sym (append_assoc (rows_text a) (rows_text b) (rows_text c)) ∙ ap (λ v. v ++ rows_text c) (sym (rows_append a b)) ∙ sym (rows_append (a ++ b) c))
