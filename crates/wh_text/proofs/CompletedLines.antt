-- Lines and sides of a certificate can be completed where one is refused: for the law on the first bad line.
use Rattle.std.proofs.Common.{ℕ, ◌*◌, ◌<◌, ◌≤◌, List, [], ◌∷◌, length, map, replicate, refl, ◌∙◌, arith, Ok}
use Rattle.std.specs.Prelude.{codes, decimal}
use Rattle.std.proofs.lemmas.List.{length-map, length-replicate}
use Rattle.std.proofs.lemmas.List.Folds.{sum_by-replicate}
use Rattle.std.proofs.lemmas.List.Elements.{All-nil, All-cons, All-map, All-replicate}
use Rattle.wh_words.specs.Limits.{most_rank, most_words, most_level_tuples}
use Rattle.wh_words.specs.Words.{IsOfRank}
use Rattle.wh_words.specs.CyclicWords.{cyclic_word}
use Rattle.wh_lines.specs.Readings.{◌>>=◌, or_bad_line, refused_as}
use Rattle.wh_lines.specs.Rows.{Row, number_row}
use Rattle.wh_lines.specs.LineReadings.{times}
use Rattle.wh_lines.proofs.PrintedRows.{IsShown, IsShownRow, IsShownByte}
use Rattle.wh_lines.proofs.LocalReadings.{bad_line_is}
use Rattle.wh_lines.proofs.ExactReadings.{Then, Headed, Nothing, OneRow, Rows, exact_times}
use Rattle.wh_lines.proofs.CompletedReadings.{Completes, completes_none, completes_then, completes_as, completes_line, completes_head, completes_times}
use Rattle.wh_fields.specs.Words.{letter_text, word_text}
use Rattle.wh_fields.specs.TupleFields.{tuple_at, words_row}
use Rattle.wh_fields.specs.MoveFields.{moves_at}
use Rattle.wh_fields.specs.FlowFields.{flow_in}
use Rattle.wh_fields.specs.Laws.{IsPairOf}
use Rattle.wh_fields.proofs.ShownFields.{shown_from, written_shown, letter_shown, decimal_shown}
use Rattle.wh_text.specs.Certificates.{in_answer, tuple_after, like_of, like_after, moves_after, flow_after, side_with, side_after, number_in, level_after}
use Rattle.wh_text.specs.CertificateTexts.{IsTupleRow, IsLikeRow, IsMovesRow, IsFlowRow, IsLevelText}
use Rattle.wh_text.proofs.ExactLines.{IsSideRead, SideParts, side_there, SizeRow, level_there, number_is_row, exact_like, exact_moves, exact_flow}
use Rattle.wh_text.proofs.FirstLines.{tuple_in, like_in, moves_in}
use Rattle.wh_flow.specs.Tables.{zero_table}

-- ---- tuples
-- so many empty words
abbrev empty_words : ℕ → List (List ℕ)
empty_words k = replicate k []

empty_row : (keyword : List ℕ) (n k : ℕ) → k ≤ most_words → IsTupleRow keyword n (words_row keyword (empty_words k)) (record { rank = n; words = map cyclic_word (empty_words k) })
empty_row keyword n k few = record {
  written = empty_words k;
  spelled = refl;
  of_rank = All-replicate (IsOfRank n) k [] (All-nil (λ x. x < 2 * n));
  few = omega (arith, few, length-replicate {A = List ℕ} k []);
  short = omega (arith, sum_by-replicate (λ (w : List ℕ). length w) k []);
  cyclic = refl;
}

empty_shown : (keyword : List ℕ) (k : ℕ) → IsShown keyword → IsShownRow (words_row keyword (empty_words k))
empty_shown keyword k h = record { keyword = h; fields = All-map IsShown word_text (empty_words k) (All-replicate (λ w. IsShown (word_text w)) k [] (shown_from 49 [] (omega arith, omega arith) (All-nil IsShownByte))) }

pub completes_tuple : (keyword : List ℕ) (n : ℕ) → IsShown keyword → Completes (tuple_after keyword n) (OneRow (IsTupleRow keyword n))
unfolding tuple_after
completes_tuple keyword n h =
    completes_line keyword (λ k. refused_as in_answer (tuple_at n k.number k.fields)) (IsTupleRow keyword n) (words_row keyword (empty_words 0)) (record { rank = n; words = map cyclic_word (empty_words 0) })
    (empty_row keyword n 0 (omega arith)) (empty_shown keyword 0 h) (tuple_in n)

pub completes_like : (keyword : List ℕ) (n count : ℕ) → IsShown keyword → count ≤ most_words → Completes (like_after keyword n count) (OneRow (IsLikeRow keyword n count))
unfolding like_after
completes_like keyword n count h few =
    completes_line keyword (like_of n count) (IsLikeRow keyword n count) (words_row keyword (empty_words count)) (record { rank = n; words = map cyclic_word (empty_words count) })
    (empty_row keyword n count few, length-map (empty_words count) cyclic_word ∙ length-replicate {A = List ℕ} count []) (empty_shown keyword count h) (like_in n count)

-- ---- moves and flows
pub completes_moves : (keyword : List ℕ) (n : ℕ) → IsShown keyword → Completes (moves_after keyword n) (OneRow (IsMovesRow keyword n))
unfolding moves_after
completes_moves keyword n h =
    completes_line keyword (λ k. refused_as in_answer (moves_at n k.number k.fields)) (IsMovesRow keyword n) (record { keyword = keyword; fields = [] }) []
    (refl, tt) (record { keyword = h; fields = All-nil IsShown }) (moves_in n)

-- the row of the flow of the first generator where nothing flows
abbrev still_row : Row
still_row = record { keyword = codes "flow"; fields = (letter_text 0 ∷ []) ∷ decimal 0 ∷ [] }

still_shown : IsShownRow still_row
still_shown = record {
  keyword = written_shown 102 (codes "low") refl;
  fields = All-cons IsShown (letter_text 0 ∷ []) (decimal 0 ∷ []) (shown_from (letter_text 0) [] (letter_shown 0 (omega arith)) (All-nil IsShownByte))
      (All-cons IsShown (decimal 0) [] (decimal_shown 0 (omega arith)) (All-nil IsShown));
}

still_told : (n : ℕ) → 1 ≤ n → IsFlowRow n still_row (record { head = (0, 0); table = zero_table })
still_told n h = (refl, record { letter = omega (arith, h); value = omega arith; pairs = []; of_rank = All-nil (IsPairOf n); rise = tt; spelled = refl; table = refl })

pub completes_flow : (n : ℕ) → 1 ≤ n → Completes (flow_after n) (OneRow (IsFlowRow n))
unfolding flow_after
completes_flow n h =
    completes_line (codes "flow") (λ k. or_bad_line k.number (flow_in n k.fields)) (IsFlowRow n) still_row (record { head = (0, 0); table = zero_table })
    (still_told n h) still_shown (λ k m e. bad_line_is k.number m (flow_in n k.fields) e)

-- ---- sides
pub completes_side : (n count : ℕ) → 1 ≤ n → n ≤ most_rank → count ≤ most_words → Completes (side_after n count) (IsSideRead n count)
unfolding side_after
completes_side n count some h few =
    completes_as (side_after n count) (SideParts n count) (IsSideRead n count) (side_there n count)
    (completes_then (moves_after (codes "trace") n) (λ ms. like_after (codes "end") n count ms.1 >>= λ t. times (flow_after n) n t.1 >>= λ fs. Ok (side_with ms.0 t.0 fs.0, fs.1))
    (OneRow (IsMovesRow (codes "trace") n)) (λ ms. Then (OneRow (IsLikeRow (codes "end") n count)) (λ t. Then (Rows (IsFlowRow n) n) (λ fs. Nothing (side_with ms t fs))))
    (exact_moves (codes "trace") n h) (completes_moves (codes "trace") n (written_shown 116 (codes "race") refl))
    (λ ms _ _. completes_then (like_after (codes "end") n count) (λ t. times (flow_after n) n t.1 >>= λ fs. Ok (side_with ms t.0 fs.0, fs.1))
    (OneRow (IsLikeRow (codes "end") n count)) (λ t. Then (Rows (IsFlowRow n) n) (λ fs. Nothing (side_with ms t fs)))
    (exact_like (codes "end") n count h) (completes_like (codes "end") n count (written_shown 101 (codes "nd") refl) few)
    (λ t _ _. completes_then (times (flow_after n) n) (λ fs. Ok (side_with ms t fs.0, fs.1)) (Rows (IsFlowRow n) n) (λ fs. Nothing (side_with ms t fs))
    (exact_times (flow_after n) (IsFlowRow n) n (exact_flow n h)) (completes_times (flow_after n) (IsFlowRow n) n (exact_flow n h) (completes_flow n some))
    (λ fs _ _. completes_none (side_with ms t fs)))))

-- ---- levels
pub completes_level : (n count : ℕ) → n ≤ most_rank → count ≤ most_words → Completes (level_after n count) (IsLevelText n count)
unfolding level_after
completes_level n count h few =
    completes_as (level_after n count) (Headed SizeRow (Rows (IsLikeRow (codes "at") n count))) (IsLevelText n count) (level_there n count)
    (completes_head (codes "level") (λ k. or_bad_line k.number (number_in 1 most_level_tuples k.fields)) (λ a. times (like_after (codes "at") n count) a.0 a.1) SizeRow (Rows (IsLikeRow (codes "at") n count))
    (number_row (codes "level") 1) 1 (refl, omega arith, omega arith)
    (record { keyword = written_shown 108 (codes "evel") refl; fields = All-cons IsShown (decimal 1) [] (decimal_shown 1 (omega arith)) (All-nil IsShown) })
    (λ k size some is e. number_is_row (codes "level") 1 most_level_tuples k size is e)
    (λ k m e. bad_line_is k.number m (number_in 1 most_level_tuples k.fields) e)
    (λ size. completes_times (like_after (codes "at") n count) (IsLikeRow (codes "at") n count) size (exact_like (codes "at") n count h) (completes_like (codes "at") n count (written_shown 97 (codes "t") refl) few)))
