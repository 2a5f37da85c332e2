-- What presents a stabiliser can be completed where a line is refused: for the law on the first bad line.
use Rattle.std.proofs.Common.{◌≡◌, ℕ, ◌-◌, ◌≤◌, Bool, true, false, cond, List, [], ◌∷◌, ◌++◌, length, refl, arith, Result, Ok, Err}
use Rattle.std.specs.Prelude.{◌&&◌, codes, decimal}
use Rattle.std.proofs.lemmas.List.Elements.{All-nil, All-cons}
use Rattle.wh_words.specs.Limits.{most_rank, most_words, most_level_edges, most_relators}
use Rattle.wh_words.specs.Tuples.{TupleData}
use Rattle.wh_words.specs.Moves.{Move}
use Rattle.wh_words.specs.Moves.Kind.{invert}
use Rattle.wh_lines.specs.declared.read_error.ReadError.{ReadError}
use Rattle.wh_lines.specs.declared.read_error.ReadError.TheVariants as errors
use Rattle.wh_lines.specs.Lines.{are}
use Rattle.wh_lines.specs.Readings.{◌>>=◌, or_bad_line}
use Rattle.wh_lines.specs.Rows.{Row, number_row}
use Rattle.wh_lines.specs.KeptLines.{Rest}
use Rattle.wh_lines.specs.KeptLines.Rest.{line, bad_byte, end}
use Rattle.wh_lines.specs.LineReadings.{Reading, times}
use Rattle.wh_lines.proofs.PrintedRows.{IsShown}
use Rattle.wh_lines.proofs.LocalReadings.{bad_line_is}
use Rattle.wh_lines.proofs.ExactReadings.{Exact, Then, Headed, Nothing, OneRow, Rows, exact_times}
use Rattle.wh_lines.proofs.CompletedReadings.{Completes, completes_none, completes_then, completes_as, completes_by, completes_line, completes_head, completes_times}
use Rattle.wh_fields.specs.StabiliserFields.{tree_edge_in, generator_in, relator_in, tree_row, generator_row, relator_row}
use Rattle.wh_fields.specs.Laws.{IsMoveField, an_inversion, IsCounting}
use Rattle.wh_fields.proofs.ShownFields.{written_shown, decimal_shown, kind_shown}
use Rattle.wh_data.specs.AnswerData.StabVerdictData.{done}
use Rattle.wh_data.specs.AnswerData.AnswerData.{stabiliser}
use Rattle.wh_text.specs.Certificates.{side_after, number_in, level_after, is_undecided_in, unless_undecided, tree_edge_after, generator_after, relator_after, counted_after, parts_with, parts_after, with_parts, with_stab}
use Rattle.wh_text.specs.CertificateTexts.{IsLevelText, IsTreeRow, IsGeneratorRow, IsRelatorRow, AreCountedRows}
use Rattle.wh_text.proofs.ExactLines.{IsSideRead, number_is_row, exact_side, exact_level}
use Rattle.wh_text.proofs.ExactParts.{exact_tree_edge, exact_generator, exact_relator, CountRow, counted_there, exact_counted, GeneratorRows, RelatorRows, PartRows, IsPartsRead, parts_there, exact_parts, stab_lines, stab_split, Stabilises}
use Rattle.wh_text.proofs.CompletedLines.{completes_side, completes_level}

-- ---- lines
-- the inversion of the first generator
abbrev inversion : ℕ → Move
inversion n = record { rank = n; kind = invert 1 }

abbrev inversion_field : List ℕ
inversion_field = codes "i" ++ decimal 1

inversion_told : (n : ℕ) → 1 ≤ n → IsMoveField n inversion_field (invert 1)
inversion_told n h = an_inversion 1 (omega arith) h refl refl

inversion_shown : IsShown inversion_field
inversion_shown = kind_shown 1 (invert 1) (omega arith) (omega arith, omega arith)

one_shown : IsShown (decimal 1)
one_shown = decimal_shown 1 (omega arith)

pub completes_tree_edge : (n : ℕ) → 1 ≤ n → Completes (tree_edge_after n) (OneRow (IsTreeRow n))
unfolding tree_edge_after
completes_tree_edge n h =
    completes_line (codes "tree") (λ k. or_bad_line k.number (tree_edge_in n k.fields)) (IsTreeRow n) (tree_row 0 0 (inversion n)) (record { head = 1; parent = 0; move = inversion n })
    (refl, record { number = (omega arith, omega arith); parent = (omega arith, omega arith); rank = refl; field = inversion_field; move = inversion_told n h; spelled = refl })
    (record {
      keyword = written_shown 116 (codes "ree") refl;
      fields = All-cons IsShown (decimal 1) (decimal 1 ∷ inversion_field ∷ []) one_shown (All-cons IsShown (decimal 1) (inversion_field ∷ []) one_shown (All-cons IsShown inversion_field [] inversion_shown (All-nil IsShown)));
    })
    (λ k m e. bad_line_is k.number m (tree_edge_in n k.fields) e)

pub completes_generator : (n : ℕ) → 1 ≤ n → Completes (generator_after n) (OneRow (IsGeneratorRow n))
unfolding generator_after
completes_generator n h =
    completes_line (codes "generator") (λ k. or_bad_line k.number (generator_in n k.fields)) (IsGeneratorRow n) (generator_row 0 (inversion n)) (0, inversion n)
    (refl, record { vertex = (omega arith, omega arith); rank = refl; field = inversion_field; move = inversion_told n h; spelled = refl })
    (record { keyword = written_shown 103 (codes "enerator") refl; fields = All-cons IsShown (decimal 1) (inversion_field ∷ []) one_shown (All-cons IsShown inversion_field [] inversion_shown (All-nil IsShown)) })
    (λ k m e. bad_line_is k.number m (generator_in n k.fields) e)

pub completes_relator : (n : ℕ) → 1 ≤ n → Completes (relator_after n) (OneRow (IsRelatorRow n))
unfolding relator_after
completes_relator n h =
    completes_line (codes "relator") (λ k. or_bad_line k.number (relator_in n k.fields)) (IsRelatorRow n) (relator_row 0 (inversion n ∷ []) []) (record { at = 0; moves = inversion n ∷ []; word = [] })
    (refl, record { vertex = (omega arith, omega arith); fields = inversion_field ∷ []; moves = (refl, inversion_told n h, tt); some = λ e. absurd (cc); numbers = All-nil IsCounting; spelled = refl })
    (record {
      keyword = written_shown 114 (codes "elator") refl;
      fields = All-cons IsShown (decimal 1) (inversion_field ∷ codes "=" ∷ []) one_shown (All-cons IsShown inversion_field (codes "=" ∷ []) inversion_shown (All-cons IsShown (codes "=") [] (written_shown 61 [] refl) (All-nil IsShown)));
    })
    (λ k m e. bad_line_is k.number m (relator_in n k.fields) e)

-- ---- counted lines
completes_counted : {A : Type 0} (keyword : List ℕ) (most : ℕ) (each : Reading → Result (A × Reading) ReadError) (T : Row → A → Type 0) → IsShown keyword → Exact each (OneRow T) → Completes each (OneRow T) →
    Completes (counted_after keyword most each) (AreCountedRows keyword most T)
completes_counted keyword most each T h exact c =
    completes_as (counted_after keyword most each) (Headed (CountRow keyword most) (Rows T)) (AreCountedRows keyword most T) (counted_there keyword most T)
    (completes_head keyword (λ k. or_bad_line k.number (number_in 0 most k.fields)) (λ a. times each a.0 a.1) (CountRow keyword most) (Rows T) (number_row keyword 0) 0 (refl, omega arith, omega arith)
    (record { keyword = h; fields = All-cons IsShown (decimal 0) [] (decimal_shown 0 (omega arith)) (All-nil IsShown) })
    (λ k size some is e. number_is_row keyword 0 most k size is e)
    (λ k m e. bad_line_is k.number m (number_in 0 most k.fields) e)
    (λ size. completes_times each T size exact c))

-- ---- what presents a stabiliser
pub completes_parts : (n : ℕ) (u : TupleData) (vs : List TupleData) → 1 ≤ n → n ≤ most_rank → Completes (parts_after n u vs) (IsPartsRead n u vs)
unfolding parts_after
completes_parts n u vs some h =
    completes_as (parts_after n u vs) (PartRows n u vs) (IsPartsRead n u vs) (parts_there n u vs)
    (completes_then (times (tree_edge_after n) (length vs - 1))
    (λ es. counted_after (codes "generators") most_level_edges (generator_after n) es.1 >>= λ gs. counted_after (codes "relators") most_relators (relator_after n) gs.1 >>= λ rs. Ok (parts_with u vs es.0 gs.0 rs.0, rs.1))
    (Rows (IsTreeRow n) (length vs - 1)) (λ es. Then (GeneratorRows n) (λ gs. Then (RelatorRows n) (λ rs. Nothing (parts_with u vs es gs rs))))
    (exact_times (tree_edge_after n) (IsTreeRow n) (length vs - 1) (exact_tree_edge n h)) (completes_times (tree_edge_after n) (IsTreeRow n) (length vs - 1) (exact_tree_edge n h) (completes_tree_edge n some))
    (λ es _ _. completes_then (counted_after (codes "generators") most_level_edges (generator_after n)) (λ gs. counted_after (codes "relators") most_relators (relator_after n) gs.1 >>= λ rs. Ok (parts_with u vs es gs.0 rs.0, rs.1))
    (GeneratorRows n) (λ gs. Then (RelatorRows n) (λ rs. Nothing (parts_with u vs es gs rs)))
    (exact_counted (codes "generators") most_level_edges (generator_after n) (IsGeneratorRow n) (omega arith) (exact_generator n h))
    (completes_counted (codes "generators") most_level_edges (generator_after n) (IsGeneratorRow n) (written_shown 103 (codes "enerators") refl) (exact_generator n h) (completes_generator n some))
    (λ gs _ _. completes_then (counted_after (codes "relators") most_relators (relator_after n)) (λ rs. Ok (parts_with u vs es gs rs.0, rs.1)) (RelatorRows n) (λ rs. Nothing (parts_with u vs es gs rs))
    (exact_counted (codes "relators") most_relators (relator_after n) (IsRelatorRow n) (omega arith) (exact_relator n h))
    (completes_counted (codes "relators") most_relators (relator_after n) (IsRelatorRow n) (written_shown 114 (codes "elators") refl) (exact_relator n h) (completes_relator n some))
    (λ rs _ _. completes_none (parts_with u vs es gs rs)))))

-- ---- unless it is undecided
undecided_bad : {A : Type 0} (r : Rest) (x : Result A ReadError) (l : ℕ) → unless_undecided r x ≡ Err (errors.BadLine l) → x ≡ Err (errors.BadLine l)
undecided_bad (line k later) x l e = by (are k.keyword (codes "verdict") && is_undecided_in k.fields) e
  where
    by : (t : Bool) → cond t (Err (errors.NoCertificate k.number)) x ≡ Err (errors.BadLine l) → x ≡ Err (errors.BadLine l)
    by true e = absurd (cc)
    by false e = e
undecided_bad (bad_byte m c) x l e = e
undecided_bad (end m) x l e = e

completes_undecided : {A : Type 0} (read : Reading → Result (A × Reading) ReadError) (S : List Row → A → Type 0) → Completes read S → Completes (λ p. unless_undecided p.rest (read p)) S
completes_undecided read S h = record { possible = h.possible; complete = λ p l some e. h.complete p l some (undecided_bad p.rest (read p) l e) }

-- ---- the lines after the tuple
completes_stab_lines : (n : ℕ) (t : TupleData) → 1 ≤ n → n ≤ most_rank → length t.words ≤ most_words → Completes (stab_lines n t) (Stabilises n t)
completes_stab_lines n t some h few =
    completes_then (side_after n (length t.words)) (λ s. with_parts n t s.0 s.1) (IsSideRead n (length t.words))
    (λ s. Then (IsLevelText n (length t.words)) (λ vs. Then (IsPartsRead n s.side.end vs) (λ ps. Nothing (record { answer = stabiliser t (done s.side ps.parts); heads = s.heads; tree_heads = ps.heads }))))
    (exact_side n (length t.words) h) (completes_side n (length t.words) some h few)
    (λ s _ _. completes_then (level_after n (length t.words)) (λ vs. parts_after n s.side.end vs.0 vs.1 >>= λ ps. Ok (record { answer = stabiliser t (done s.side ps.0.parts); heads = s.heads; tree_heads = ps.0.heads }, ps.1))
    (IsLevelText n (length t.words)) (λ vs. Then (IsPartsRead n s.side.end vs) (λ ps. Nothing (record { answer = stabiliser t (done s.side ps.parts); heads = s.heads; tree_heads = ps.heads })))
    (exact_level n (length t.words) h) (completes_level n (length t.words) h few)
    (λ vs _ _. completes_then (parts_after n s.side.end vs) (λ ps. Ok (record { answer = stabiliser t (done s.side ps.0.parts); heads = s.heads; tree_heads = ps.0.heads }, ps.1))
    (IsPartsRead n s.side.end vs) (λ ps. Nothing (record { answer = stabiliser t (done s.side ps.parts); heads = s.heads; tree_heads = ps.heads }))
    (exact_parts n s.side.end vs h) (completes_parts n s.side.end vs some h)
    (λ ps _ _. completes_none (record { answer = stabiliser t (done s.side ps.parts); heads = s.heads; tree_heads = ps.heads }))))

pub completes_stab : (n : ℕ) (t : TupleData) → 1 ≤ n → n ≤ most_rank → length t.words ≤ most_words → Completes (with_stab n t) (Stabilises n t)
completes_stab n t some h few =
    completes_by (λ p. unless_undecided p.rest (stab_lines n t p)) (with_stab n t) (Stabilises n t) (stab_split n t) (completes_undecided (stab_lines n t) (Stabilises n t) (completes_stab_lines n t some h few))
