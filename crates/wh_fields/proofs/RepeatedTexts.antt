-- Printing what the numbers below k give, one after the other: for the loops that print sets and flows.
use Rattle.std.proofs.Common.{◌≡◌, ℕ, suc, ◌+◌, ◌*◌, ◌<◌, Bool, true, false, cond, List, [], ◌∷◌, ◌++◌, length, get_or, take, refl, sym, ap, ◌∙◌, arith, append_assoc, append-nil}
use Rattle.std.specs.Prelude.{◌==◌, ◌||◌, map, codes, decimal}
use Rattle.std.specs.List.{flat_map}
use Rattle.std.proofs.lemmas.List.{length-take-le}
use Rattle.std.proofs.lemmas.Grind.{flat_map-append}
use Rattle.std.proofs.lemmas.List.Folds.{flat_map-map}
use Rattle.std.proofs.Math.Seq.{take-suc}
use Rattle.wh_words.specs.Moves.{Move}
use Rattle.wh_flow.specs.Tables.{cell}
use Rattle.wh_lines.specs.Rows.{fields_text, row_text, rows_text}
use Rattle.wh_lines.proofs.PrintedRows.{rows_append}
use Rattle.wh_fields.specs.Repeated.{below}
use Rattle.wh_fields.specs.Words.{letter_text, word_text}
use Rattle.wh_fields.specs.MoveFields.{kind_text}
use Rattle.wh_fields.specs.FlowFields.{pair_item, flow_row, flow_rows}

pub below_suc : {A : Type 0} (item : ℕ → List A) (k : ℕ) → below item (k + 1) ≡ below item k ++ item k
unfolding below
below_suc item k = ap (below item) (plus k)
  where
    plus : (k : ℕ) → k + 1 ≡ suc k
    plus k = omega arith

-- ---- fields
pub fields_start : (item : ℕ → List (List ℕ)) (old : List ℕ) → old ≡ old ++ fields_text (below item 0)
unfolding below
fields_start item old = sym (append-nil old)

pub fields_more : (item : ℕ → List (List ℕ)) (k : ℕ) (piece out next old : List ℕ) → piece ≡ fields_text (item k) → next ≡ out ++ piece → out ≡ old ++ fields_text (below item k) → next ≡ old ++ fields_text (below item (k + 1))
fields_more item k piece out next old p e h =
    e ∙ ap (λ v. out ++ v) p ∙ ap (λ v. v ++ fields_text (item k)) h ∙ append_assoc old (fields_text (below item k)) (fields_text (item k))
    ∙ ap (λ v. old ++ v) (sym (flat_map-append (λ f. 32 ∷ f) (below item k) (item k)) ∙ ap fields_text (sym (below_suc item k)))

pub fields_below : (item : ℕ → List (List ℕ)) (k : ℕ) → fields_text (below item (suc k)) ≡ fields_text (below item k) ++ fields_text (item k)
unfolding below
fields_below item k = flat_map-append (λ f. 32 ∷ f) (below item k) (item k)

-- words, moves and numbers as fields
pub word_fields : (ws : List (List ℕ)) → flat_map (λ w. 32 ∷ word_text w) ws ≡ fields_text (map word_text ws)
word_fields ws = sym (flat_map-map (λ f. 32 ∷ f) word_text ws)

pub move_fields : (ms : List Move) → flat_map (λ m. 32 ∷ kind_text m.kind) ms ≡ fields_text (map (λ m. kind_text m.kind) ms)
move_fields ms = sym (flat_map-map (λ f. 32 ∷ f) (λ m. kind_text m.kind) ms)

pub number_fields : (ns : List ℕ) → flat_map (λ n. 32 ∷ decimal n) ns ≡ fields_text (map decimal ns)
number_fields ns = sym (flat_map-map (λ f. 32 ∷ f) decimal ns)

-- a pair of letters, as text
pair_by : (t : Bool) (w : List ℕ) → cond t [] (32 ∷ w) ≡ fields_text (cond t [] (w ∷ []))
pair_by true w = refl
pair_by false w = sym (append-nil (32 ∷ w))

pub pair_text : (f : List ℕ) (x y : ℕ) → cond ((x == y) || (cell f x y == 0)) [] (32 ∷ letter_text x ∷ letter_text y ∷ codes ":" ++ decimal (cell f x y)) ≡ fields_text (pair_item f x y)
pair_text f x y = pair_by ((x == y) || (cell f x y == 0)) (letter_text x ∷ letter_text y ∷ codes ":" ++ decimal (cell f x y))

-- ---- rows of flows
rows_last : (n g : ℕ) (fs : List (List ℕ)) (f : List ℕ) → flow_rows n g (fs ++ f ∷ []) ≡ flow_rows n g fs ++ flow_row n (2 * (g + length fs)) f ∷ []
rows_last n g [] f = ap (λ k. flow_row n (2 * k) f ∷ []) (omega arith)
rows_last n g (e ∷ fs) f =
    ap (λ rs. flow_row n (2 * g) e ∷ rs) (rows_last n (g + 1) fs f) ∙ ap (λ k. flow_row n (2 * g) e ∷ (flow_rows n (g + 1) fs ++ flow_row n (2 * k) f ∷ [])) (omega arith)

-- one more flow is printed
pub flows_more : (n k : ℕ) (fs : List (List ℕ)) (piece out next old : List ℕ) → k < length fs → piece ≡ row_text (flow_row n (2 * k) (get_or fs k [])) → next ≡ out ++ piece → out ≡ old ++ rows_text (flow_rows n 0 (take k fs)) →
    next ≡ old ++ rows_text (flow_rows n 0 (take (k + 1) fs))
flows_more n k fs piece out next old l p e h =
    let row = flow_row n (2 * k) (get_or fs k []) in
    let count : 0 + length (take k fs) ≡ k = omega (arith, l, length-take-le k fs (omega (arith, l))) in
    let plus : k + 1 ≡ suc k = omega arith in
    let rows : flow_rows n 0 (take (k + 1) fs) ≡ flow_rows n 0 (take k fs) ++ row ∷ [] =
    ap (flow_rows n 0) (ap (λ i. take i fs) plus ∙ take-suc fs k [] l) ∙ rows_last n 0 (take k fs) (get_or fs k [])
    ∙ ap (λ i. flow_rows n 0 (take k fs) ++ flow_row n (2 * i) (get_or fs k []) ∷ []) count in
    let before = rows_text (flow_rows n 0 (take k fs)) in
    let total : before ++ row_text row ≡ rows_text (flow_rows n 0 (take (k + 1) fs)) =
    sym (ap (λ v. before ++ v) (append-nil (row_text row))) ∙ sym (rows_append (flow_rows n 0 (take k fs)) (row ∷ [])) ∙ ap rows_text (sym rows) in
    e ∙ ap (λ v. out ++ v) p ∙ ap (λ v. v ++ row_text row) h ∙ append_assoc old before (row_text row) ∙ ap (λ v. old ++ v) total
