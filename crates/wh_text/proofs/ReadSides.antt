-- Moves, tuples, flows and sides are read back from their rows: for the law on printed answers.
use Rattle.std.proofs.Common.{◌≡◌, ℕ, suc, ◌+◌, ◌*◌, ◌<◌, ◌≤◌, ◌==◌, cond, List, [], ◌∷◌, length, map, get_or, sym, ap, ◌∙◌, refl, subst, arith, Ok, Err}
use Rattle.std.specs.Prelude.{codes}
use Rattle.std.specs.List.{All}
use Rattle.std.proofs.lemmas.List.Elements.{All-head, All-tail, All-map, All-weaker}
use Rattle.std.proofs.lemmas.Bool.{cond-true}
use Rattle.wh_words.specs.Words.{IsOfRank}
use Rattle.wh_words.specs.CyclicWords.{cyclic_word}
use Rattle.wh_words.specs.Tuples.{TupleData, IsTuple}
use Rattle.wh_words.specs.Moves.{Move, IsKind}
use Rattle.wh_lines.specs.declared.read_error.ReadError.TheVariants as errors
use Rattle.wh_lines.specs.Lines.{Field}
use Rattle.wh_lines.specs.Readings.{◌>>=◌, items_at, or_bad_line, refused_as}
use Rattle.wh_fields.specs.Words.{word_text}
use Rattle.wh_fields.specs.MoveFields.{kind_text, kind_in, move_with, or_bad_move, move_at, moves_at, IsMoveOf, moves_row}
use Rattle.wh_fields.specs.FlowFields.{flow_value, FlowData, flow_in, IsFlowOf, heads_from, flow_row, flow_rows}
use Rattle.wh_fields.specs.TupleFields.{tuple_at, IsTupleOf, words_row}
use Rattle.wh_lines.specs.LineReadings.{times}
use Rattle.wh_data.specs.AnswerData.{SideData}
use Rattle.wh_text.specs.Certificates.{in_answer, tuple_after, like_of, like_after, moves_after, flow_after, SideRead, side_with, with_flows, ended_after, side_after}
use Rattle.wh_data.specs.AnswerParts.{IsSideOf}
use Rattle.wh_lines.proofs.Scanning.{eq_true}
use Rattle.wh_fields.proofs.TupleLaws.{tuple_back}
use Rattle.wh_lines.proofs.PrintedRows.{IsShown, IsShownRow}
use Rattle.wh_lines.proofs.FieldLaws.{AreSome}
use Rattle.wh_lines.proofs.RowReadings.{ReadsRows, reads_none, row_then, reads_then, reads_as, times_none, times_more}
use Rattle.wh_fields.proofs.ShownFields.{word_shown, kind_shown, flow_shown, written_shown}
use Rattle.wh_fields.proofs.ReadMoves.{kind_back}
use Rattle.wh_fields.proofs.ReadFlows.{flow_back}
use Rattle.wh_data.specs.AnswerTexts.{side_rows}

-- ---- moves
pub kind_of : (n : ℕ) (m : Move) → IsMoveOf n m → IsKind n m.kind
kind_of n m h = subst (λ (k : ℕ). IsKind k m.kind) h.1 h.0.kind

move_back : (n l : ℕ) (f : Field) (m : Move) → n ≤ 26 → IsMoveOf n m → f.bytes ≡ kind_text m.kind → move_at n l f ≡ Ok m
move_back n l f m h i e =
    ap (λ o. or_bad_move l f.column (move_with n o)) (ap (kind_in n) e ∙ kind_back n m.kind h (kind_of n m i))
    ∙ ap (λ k. Ok (record { rank = k; kind = m.kind })) (sym i.1)

moves_back : (n l : ℕ) (fs : List Field) (ms : List Move) → n ≤ 26 → All (IsMoveOf n) ms → map (λ f. f.bytes) fs ≡ map (λ m. kind_text m.kind) ms → moves_at n l fs ≡ Ok ms
unfolding items_at
moves_back n l [] [] h a e = refl
moves_back n l [] (m ∷ ms) h a e = absurd (cc)
moves_back n l (f ∷ fs) [] h a e = absurd (cc)
moves_back n l (f ∷ fs) (m ∷ ms) h a e =
    let first : f.bytes ≡ kind_text m.kind = (cc) in
    let rest : map (λ f. f.bytes) fs ≡ map (λ m. kind_text m.kind) ms = (cc) in
    ap (λ r. r >>= λ x. moves_at n l fs >>= λ xs. Ok (x ∷ xs)) (move_back n l f m h (All-head (IsMoveOf n) m ms a) first)
    ∙ ap (λ r. r >>= λ xs. Ok (m ∷ xs)) (moves_back n l fs ms h (All-tail (IsMoveOf n) m ms a) rest)

pub moves_shown : (n : ℕ) (ms : List Move) → n ≤ 26 → All (IsMoveOf n) ms → All IsShown (map (λ m. kind_text m.kind) ms)
moves_shown n ms h a = All-map IsShown (λ m. kind_text m.kind) ms (All-weaker (IsMoveOf n) (λ m. IsShown (kind_text m.kind)) (λ m i. kind_shown n m.kind h (kind_of n m i)) ms a)

pub moves_read : (keyword : List ℕ) (n : ℕ) (ms : List Move) → IsShown keyword → n ≤ 26 → All (IsMoveOf n) ms → ReadsRows (moves_after keyword n) ms (moves_row keyword ms ∷ [])
unfolding moves_after
moves_read keyword n ms k h a =
    row_then (moves_row keyword ms) (λ k. refused_as in_answer (moves_at n k.0.number k.0.fields) >>= λ xs. Ok (xs, k.1)) ms [] (record { keyword = k; fields = moves_shown n ms h a })
    (λ k t. reads_none (λ p. refused_as in_answer (moves_at n k.number k.fields) >>= λ xs. Ok (xs, p)) ms (λ p. ap (λ r. refused_as in_answer r >>= λ xs. Ok (xs, p)) (moves_back n k.number k.fields ms h a t.same)))

-- ---- tuples
all_cyclic : (ws : List (List ℕ)) → All (λ w. cyclic_word w ≡ w) ws → ws ≡ map cyclic_word ws
all_cyclic [] a = refl
all_cyclic (w ∷ ws) a =
    ap (λ v. v ∷ ws) (sym (All-head (λ w. cyclic_word w ≡ w) w ws a)) ∙ ap (λ vs. cyclic_word w ∷ vs) (all_cyclic ws (All-tail (λ w. cyclic_word w ≡ w) w ws a))

tuple_told : (n l : ℕ) (fs : List Field) (t : TupleData) → n ≤ 26 → IsTuple t → t.rank ≡ n → AreSome fs → map (λ f. f.bytes) fs ≡ map word_text t.words → refused_as in_answer (tuple_at n l fs) ≡ Ok t
tuple_told n l fs t h i e some same =
    ap (refused_as in_answer) (tuple_back n l fs t h some (record {
      written = t.words;
      spelled = same;
      of_rank = subst (λ (k : ℕ). All (IsOfRank k) t.words) e i.of_rank;
      few = i.few;
      short = i.short;
      cyclic = ap (λ ws. record { rank = t.rank; words = ws }) (all_cyclic t.words i.cyclic) ∙ ap (λ k. record { rank = k; words = map cyclic_word t.words }) e;
    }))

words_shown : (keyword : List ℕ) (t : TupleData) → IsShown keyword → t.rank ≤ 26 → IsTuple t → IsShownRow (words_row keyword t.words)
words_shown keyword t k h i =
    record { keyword = k; fields = All-map IsShown word_text t.words (All-weaker (IsOfRank t.rank) (λ w. IsShown (word_text w)) (λ w a. word_shown t.rank w h a) t.words i.of_rank) }

pub tuple_read : (keyword : List ℕ) (t : TupleData) → IsShown keyword → t.rank ≤ 26 → IsTuple t → ReadsRows (tuple_after keyword t.rank) t (words_row keyword t.words ∷ [])
unfolding tuple_after
tuple_read keyword t k h i =
    let n = t.rank in
    row_then (words_row keyword t.words) (λ k. refused_as in_answer (tuple_at n k.0.number k.0.fields) >>= λ u. Ok (u, k.1)) t [] (words_shown keyword t k h i)
    (λ k f. reads_none (λ p. refused_as in_answer (tuple_at n k.number k.fields) >>= λ u. Ok (u, p)) t (λ p. ap (λ r. r >>= λ u. Ok (u, p)) (tuple_told n k.number k.fields t h i refl f.some f.same)))

pub like_read : (keyword : List ℕ) (n count : ℕ) (t : TupleData) → IsShown keyword → n ≤ 26 → IsTupleOf n count t → ReadsRows (like_after keyword n count) t (words_row keyword t.words ∷ [])
unfolding like_after like_of
like_read keyword n count t k h i =
    row_then (words_row keyword t.words) (λ k. like_of n count k.0 >>= λ u. Ok (u, k.1)) t [] (words_shown keyword t k (omega (arith, h, i.rank)) i.tuple)
    (λ k f.
    let told : like_of n count k ≡ Ok t =
    ap (λ r. r >>= λ u. cond (length u.words == count) (Ok u) (Err (errors.BadLine k.number))) (tuple_told n k.number k.fields t h i.tuple i.rank f.some f.same)
    ∙ cond-true (length t.words == count) (Ok t) (Err (errors.BadLine k.number)) (eq_true (length t.words) count i.size) in
    reads_none (λ p. like_of n count k >>= λ u. Ok (u, p)) t (λ p. ap (λ r. r >>= λ u. Ok (u, p)) told))

-- ---- flows
-- what the line of a flow tells
abbrev flow_data : ℕ → List ℕ → FlowData
flow_data g f = record { head = (2 * g, flow_value f (2 * g)); table = f }

abbrev flows_data : ℕ → List (List ℕ) → List FlowData
flows_data g [] = []
flows_data g (f ∷ fs) = flow_data g f ∷ flows_data (g + 1) fs

tables_are : (g : ℕ) (fs : List (List ℕ)) → map (λ d. d.table) (flows_data g fs) ≡ fs
tables_are g [] = refl
tables_are g (f ∷ fs) = ap (λ ts. f ∷ ts) (tables_are (g + 1) fs)

heads_are : (g : ℕ) (fs : List (List ℕ)) → map (λ d. d.head) (flows_data g fs) ≡ heads_from g fs
heads_are g [] = refl
heads_are g (f ∷ fs) = ap (λ hs. (2 * g, flow_value f (2 * g)) ∷ hs) (heads_are (g + 1) fs)

flow_read : (n g : ℕ) (f : List ℕ) → n ≤ 26 → g < n → IsFlowOf n g f → ReadsRows (flow_after n) (flow_data g f) (flow_row n (2 * g) f ∷ [])
unfolding flow_after
flow_read n g f h l i =
    row_then (flow_row n (2 * g) f) (λ k. or_bad_line k.0.number (flow_in n k.0.fields) >>= λ d. Ok (d, k.1)) (flow_data g f) [] (flow_shown n g f h l i)
    (λ k t. reads_none (λ p. or_bad_line k.number (flow_in n k.fields) >>= λ d. Ok (d, p)) (flow_data g f) (λ p. ap (λ o. or_bad_line k.number o >>= λ d. Ok (d, p)) (flow_back n g f k.fields h l i t.same)))

flows_read : (n g : ℕ) (fs : List (List ℕ)) → n ≤ 26 → ((j : ℕ) → j < length fs → (g + j < n) × IsFlowOf n (g + j) (get_or fs j [])) → ReadsRows (times (flow_after n) (length fs)) (flows_data g fs) (flow_rows n g fs)
flows_read n g [] h each = times_none (flow_after n)
flows_read n g (f ∷ fs) h each =
    let here : (g < n) × IsFlowOf n g f = subst (λ (k : ℕ). (k < n) × IsFlowOf n k f) (omega arith) (each 0 (omega arith)) in
    times_more (flow_after n) (length fs) (flow_data g f) (flows_data (g + 1) fs) (flow_row n (2 * g) f ∷ []) (flow_rows n (g + 1) fs)
    (flow_read n g f h here.0 here.1)
    (flows_read n (g + 1) fs h (λ j l. subst (λ (k : ℕ). (k < n) × IsFlowOf n k (get_or fs j [])) (omega arith) (each (suc j) (omega (arith, l)))))

-- ---- sides
-- what the lines of a side tell
abbrev pub side_told : SideData → SideRead
side_told s = record { side = s; heads = heads_from 0 s.flows }

pub ended_read : (n count : ℕ) (s : SideData) → n ≤ 26 → IsSideOf n count s → ReadsRows (ended_after n count s.trace) (side_told s) (words_row (codes "end") s.end.words ∷ flow_rows s.end.rank 0 s.flows)
ended_read n count s h i =
    let flows = flows_data 0 s.flows in
    let told : side_with s.trace s.end flows ≡ side_told s =
    ap (λ ts. record { side = record { trace = s.trace; end = s.end; flows = ts }; heads = map (λ d. d.head) flows }) (tables_are 0 s.flows)
    ∙ ap (λ hs. record { side = s; heads = hs }) (heads_are 0 s.flows) in
    let last : ReadsRows (times (flow_after n) n) flows (flow_rows s.end.rank 0 s.flows) =
    subst (λ (k : ℕ). ReadsRows (times (flow_after n) n) flows (flow_rows k 0 s.flows)) (sym i.end.rank)
    (subst (λ (k : ℕ). ReadsRows (times (flow_after n) k) flows (flow_rows n 0 s.flows)) i.flows
    (flows_read n 0 s.flows h (λ j l. subst (λ (k : ℕ). (k < n) × IsFlowOf n k (get_or s.flows j [])) (omega arith) (omega (arith, l, i.flows), i.each j (omega (arith, l, i.flows)))))) in
    reads_then (like_after (codes "end") n count) (λ t. with_flows n s.trace t.0 t.1)
    s.end (side_told s) (words_row (codes "end") s.end.words ∷ []) (flow_rows s.end.rank 0 s.flows)
    (like_read (codes "end") n count s.end (written_shown 101 (codes "nd") refl) h i.end)
    (reads_as (times (flow_after n) n) (λ fs. Ok (side_with s.trace s.end fs.0, fs.1)) flows (side_told s) (flow_rows s.end.rank 0 s.flows) last (λ p. ap (λ x. Ok (x, p)) told))

pub side_read : (n count : ℕ) (s : SideData) → n ≤ 26 → IsSideOf n count s → ReadsRows (side_after n count) (side_told s) (side_rows s)
unfolding side_after
side_read n count s h i =
    reads_then (moves_after (codes "trace") n) (λ ms. ended_after n count ms.0 ms.1)
    s.trace (side_told s) (moves_row (codes "trace") s.trace ∷ []) (words_row (codes "end") s.end.words ∷ flow_rows s.end.rank 0 s.flows)
    (moves_read (codes "trace") n s.trace (written_shown 116 (codes "race") refl) h i.trace) (ended_read n count s h i)
