-- The moves of a certificate that was read are moves of its rank: for the law on what is told valid.
use Rattle.std.proofs.Common.{◌≡◌, ℕ, ◌≤◌, List, [], ◌∷◌, length, sym, subst, arith, Ok}
use Rattle.std.specs.Prelude.{codes}
use Rattle.std.proofs.lemmas.List.Elements.{All-nil, All-cons}
use Rattle.wh_words.specs.Limits.{most_rank}
use Rattle.wh_words.specs.Moves.{Move, IsKind}
use Rattle.wh_lines.specs.Rows.{Row}
use Rattle.wh_fields.proofs.MoveLaws.{spelled_kind}
use Rattle.wh_data.specs.AnswerData.{SideData, VerdictData, AnswerData, CertificateData}
use Rattle.wh_data.specs.AnswerData.VerdictData.{yes, no_length, no_level, undecided}
use Rattle.wh_data.specs.AnswerData.StabVerdictData.{done, stopped}
use Rattle.wh_data.specs.AnswerData.AnswerData.{reduce, decide, straighten, stabiliser}
use Rattle.wh_fields.specs.Laws.{AreMoveFields}
use Rattle.wh_text.specs.Certificates.{certificate}
use Rattle.wh_text.specs.CertificateTexts.{IsMovesRow, IsSideText, IsVerdictText, IsAnswerText}
use Rattle.wh_text.proofs.ExactCertificates.{reads_certificates}
use Rattle.wh_peak.specs.Equivalence.{IsMoveOfRank, AreMovesOfRank}
use Rattle.wh_answer.specs.Certified.{HasMovesOfRank, HasMoves}

-- ---- moves
pub fields_moves : (n : ℕ) (fs : List (List ℕ)) (ms : List Move) → n ≤ most_rank → AreMoveFields n fs ms → AreMovesOfRank n ms
fields_moves n [] [] low told = All-nil (IsMoveOfRank n)
fields_moves n [] (m ∷ ms) low told = absurd told
fields_moves n (f ∷ fs) [] low told = absurd told
fields_moves n (f ∷ fs) (m ∷ ms) low told =
    let kind : IsKind m.rank m.kind = subst (λ (k : ℕ). IsKind k m.kind) (sym told.0) (spelled_kind n f m.kind told.1) in
    All-cons (IsMoveOfRank n) m ms (record { valid = record { rank = omega (arith, told.0, low); kind = kind }; rank = told.0 }) (fields_moves n fs ms low told.2)

row_moves : (keyword : List ℕ) (n : ℕ) (row : Row) (ms : List Move) → n ≤ most_rank → IsMovesRow keyword n row ms → AreMovesOfRank n ms
row_moves keyword n row ms low told = fields_moves n row.fields ms low told.1

side_moves : (n count : ℕ) (rows : List Row) (side : SideData) (heads : List (ℕ × ℕ)) → n ≤ most_rank → IsSideText n count rows side heads → AreMovesOfRank n side.trace
side_moves n count rows side heads low told = row_moves (codes "trace") n told.trace_row side.trace low told.trace

-- ---- answers
verdict_moves : (n count : ℕ) (rows : List Row) (v : VerdictData) (heads : List (ℕ × ℕ)) → n ≤ most_rank → IsVerdictText n count rows v heads → HasMovesOfRank n v
verdict_moves n count rows (yes ms) heads low told = row_moves (codes "moves") n told.0 ms low told.2
verdict_moves n count rows (no_length a b) heads low told =
    (side_moves n count told.first a told.first_heads low told.one, side_moves n count told.second b told.second_heads low told.two)
verdict_moves n count rows (no_level a b ts) heads low told =
    (side_moves n count told.3.first a told.3.first_heads low told.3.one, side_moves n count told.3.second b told.3.second_heads low told.3.two)
verdict_moves n count rows (undecided bound) heads low told = absurd told

answer_moves : (rows : List Row) (a : AnswerData) (heads : List (ℕ × ℕ)) (tree_heads : List ℕ) → IsAnswerText rows a heads tree_heads → HasMoves a
answer_moves rows (reduce t s) heads tree_heads told = side_moves t.rank (length t.words) told.1 s heads told.4 told.6
answer_moves rows (decide s t v) heads tree_heads told = verdict_moves s.rank (length s.words) told.2 v heads (omega (arith, told.5)) told.8
answer_moves rows (straighten t given ms end) heads tree_heads told = absurd told
answer_moves rows (stabiliser t (done s p)) heads tree_heads told = side_moves t.rank (length t.words) told.6.0 s heads (omega (arith, told.4)) told.6.4
answer_moves rows (stabiliser t (stopped bound)) heads tree_heads told = absurd told.6

pub certificate_moves : (bytes : List ℕ) (c : CertificateData) → certificate bytes ≡ Ok c → HasMoves c.answer
certificate_moves bytes c e = let text = ((reads_certificates bytes c).0 e).1 in answer_moves text.rows c.answer c.flow_heads c.tree_heads text.told
