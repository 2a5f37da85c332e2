-- An answer is read back from its rows: for the law on printed answers.
use Rattle.std.proofs.Common.{◌≡◌, ℕ, ◌≤◌, ◌==◌, true, cond, List, [], ◌∷◌, ◌++◌, length, sym, ap, ◌∙◌, refl, subst, arith, append_assoc, Ok, Err}
use Rattle.std.specs.Prelude.{codes, decimal}
use Rattle.std.specs.List.{All}
use Rattle.std.proofs.lemmas.List.Elements.{All-nil, All-cons, All-append, All-push}
use Rattle.wh_words.specs.Tuples.{TupleData, IsTuple}
use Rattle.wh_data.specs.declared.command.Command.{Command}
use Rattle.wh_data.specs.declared.command.Command.TheVariants as commands
use Rattle.wh_lines.specs.declared.read_error.ReadError.TheVariants as errors
use Rattle.wh_lines.specs.Readings.{◌>>=◌, refused_as}
use Rattle.wh_lines.specs.KeptLines.Rest.{end}
use Rattle.wh_lines.specs.LineReadings.{Reading, end_of, end_after}
use Rattle.wh_text.specs.RankLines.{greatest_rank, rank_at, no_rank, rank_after}
use Rattle.wh_data.specs.AnswerData.{SideData, VerdictData, PartsData, AnswerData}
use Rattle.wh_data.specs.AnswerData.StabVerdictData.{done, stopped}
use Rattle.wh_data.specs.AnswerData.AnswerData.{reduce, decide, straighten, stabiliser}
use Rattle.wh_text.specs.Certificates.{tuple_after, like_after, side_after, ended_after, level_after, verdict_after, stab_trace_after, PartsRead, parts_after, AnswerRead, reduced_after, decided_after, with_parts, with_stab, stabilised_after, answer_with, heading_in, heading_after, in_answer, with_end, done_after, answer_after}
use Rattle.wh_fields.specs.TupleFields.{IsTupleOf, words_row}
use Rattle.wh_data.specs.AnswerParts.{IsSideOf, IsVerdictOf, ArePartsOf, IsCertificate, verdict_heads, heads_of, tree_heads_from, tree_heads_of}
use Rattle.wh_data.specs.PresentationTexts.{presentation_rows}
use Rattle.wh_fields.specs.MoveFields.{moves_row}
use Rattle.wh_fields.specs.FlowFields.{heads_from, flow_rows}
use Rattle.wh_lines.proofs.Equations.{no_fields}
use Rattle.wh_text.proofs.RankLaws.{rank_within, rank_back}
use Rattle.wh_lines.specs.Rows.{Row, number_row}
use Rattle.wh_lines.proofs.PrintedRows.{IsShown, IsShownRow}
use Rattle.wh_lines.proofs.NextLines.{behind, line_there}
use Rattle.wh_lines.proofs.RowReadings.{ReadsRows, Passes, passes_split, reads_none, row_then, reads_then, reads_as}
use Rattle.wh_fields.proofs.ShownFields.{written_shown, decimal_shown}
use Rattle.wh_data.specs.Commands.{is_checked, heading_row}
use Rattle.wh_data.specs.AnswerTexts.{side_rows, level_rows, verdict_row, verdict_rows, stab_rows, done_row, rows_of}
use Rattle.wh_text.proofs.CommandNames.{heading_back, heading_shown}
use Rattle.wh_text.proofs.ReadSides.{tuple_read, like_read, side_told, ended_read, side_read}
use Rattle.wh_text.proofs.ReadVerdicts.{level_read, verdict_read}
use Rattle.wh_text.proofs.ReadParts.{trace_read, parts_told, parts_read}

-- ---- the heading
heading_read : (command : Command) → is_checked command ≡ true → ReadsRows heading_after command (heading_row command ∷ [])
unfolding heading_after
heading_read command checked =
    row_then (heading_row command) (λ k. heading_in k.0.number k.0.fields >>= λ c. Ok (c, k.1)) command []
    (heading_shown command)
    (λ k t. reads_none (λ p. heading_in k.number k.fields >>= λ c. Ok (c, p)) command (λ p. ap (λ r. r >>= λ c. Ok (c, p)) (heading_back k.number command k.fields checked t.same)))

-- ---- the rank
rank_read : (command : Command) (n : ℕ) → 1 ≤ n → n ≤ greatest_rank command → ReadsRows (λ p. refused_as in_answer (rank_after command p)) n (number_row (codes "rank") n ∷ [])
unfolding rank_after
rank_read command n l m =
    let most = rank_within command in
    record {
      shown = All-cons IsShownRow (number_row (codes "rank") n) []
          (record { keyword = written_shown 114 (codes "ank") refl; fields = All-cons IsShown (decimal n) [] (decimal_shown n (omega (arith, m, most))) (All-nil IsShown) }) (All-nil IsShownRow);
      told = λ p q passes.
          ap (λ r. refused_as in_answer (refused_as no_rank r >>= λ k. rank_at command k.0.number k.0.fields >>= λ n. Ok (n, k.1))) (line_there (codes "rank") p passes.0 passes.1 passes.2 passes.3.keyword)
          ∙ ap (λ r. refused_as in_answer (r >>= λ n. Ok (n, behind p passes.0 passes.1))) (rank_back command passes.0.number n passes.0.fields passes.3.same l m)
          ∙ ap (λ x. Ok (n, x)) passes.4;
    }

-- ---- the lines between the rank and the last
reduced_read : (t : TupleData) (s : SideData) → t.rank ≤ 26 → IsTuple t → IsSideOf t.rank (length t.words) s →
    ReadsRows (reduced_after t.rank) (record { answer = reduce t s; heads = heads_from 0 s.flows; tree_heads = [] }) (words_row (codes "tuple") t.words ∷ side_rows s)
unfolding reduced_after
reduced_read t s h i j =
    let told : AnswerRead = record { answer = reduce t s; heads = heads_from 0 s.flows; tree_heads = [] } in
    reads_then (tuple_after (codes "tuple") t.rank) (λ u. side_after t.rank (length u.0.words) u.1 >>= λ s. Ok (record { answer = reduce u.0 s.0.side; heads = s.0.heads; tree_heads = [] }, s.1))
    t told (words_row (codes "tuple") t.words ∷ []) (side_rows s)
    (tuple_read (codes "tuple") t (written_shown 116 (codes "uple") refl) h i)
    (reads_as (side_after t.rank (length t.words)) (λ s. Ok (record { answer = reduce t s.0.side; heads = s.0.heads; tree_heads = [] }, s.1)) (side_told s) told (side_rows s)
    (side_read t.rank (length t.words) s h j) (λ p. refl))

decided_read : (s t : TupleData) (v : VerdictData) → s.rank ≤ 26 → IsTuple s → IsTupleOf s.rank (length s.words) t → IsVerdictOf s.rank (length s.words) v →
    ReadsRows (decided_after s.rank) (record { answer = decide s t v; heads = verdict_heads v; tree_heads = [] }) (words_row (codes "first") s.words ∷ words_row (codes "second") t.words ∷ verdict_row v ∷ verdict_rows v)
unfolding decided_after
decided_read s t v h i j k =
    let n = s.rank in
    let count = length s.words in
    let told : AnswerRead = record { answer = decide s t v; heads = verdict_heads v; tree_heads = [] } in
    reads_then (tuple_after (codes "first") n)
    (λ s. like_after (codes "second") n (length s.0.words) s.1 >>= λ t. verdict_after n (length s.0.words) t.1 >>= λ v. Ok (record { answer = decide s.0 t.0 v.0.verdict; heads = v.0.heads; tree_heads = [] }, v.1))
    s told (words_row (codes "first") s.words ∷ []) (words_row (codes "second") t.words ∷ verdict_row v ∷ verdict_rows v)
    (tuple_read (codes "first") s (written_shown 102 (codes "irst") refl) h i)
    (reads_then (like_after (codes "second") n count) (λ t. verdict_after n count t.1 >>= λ v. Ok (record { answer = decide s t.0 v.0.verdict; heads = v.0.heads; tree_heads = [] }, v.1))
    t told (words_row (codes "second") t.words ∷ []) (verdict_row v ∷ verdict_rows v)
    (like_read (codes "second") n count t (written_shown 115 (codes "econd") refl) h j)
    (reads_as (verdict_after n count) (λ v. Ok (record { answer = decide s t v.0.verdict; heads = v.0.heads; tree_heads = [] }, v.1)) (record { verdict = v; heads = verdict_heads v }) told (verdict_row v ∷ verdict_rows v)
    (verdict_read n count v h k) (λ p. refl)))

-- what the lines of a stabiliser tell
abbrev stab_told : TupleData → SideData → PartsData → AnswerRead
stab_told t s p = record { answer = stabiliser t (done s p); heads = heads_from 0 s.flows; tree_heads = tree_heads_from 0 p.tree }

stabilised_read : (t : TupleData) (s : SideData) (p : PartsData) → t.rank ≤ 26 → IsTuple t → IsSideOf t.rank (length t.words) s → ArePartsOf t.rank (length t.words) s.end p →
    ReadsRows (stabilised_after t.rank) (stab_told t s p) (words_row (codes "tuple") t.words ∷ stab_rows (done s p))
unfolding stabilised_after
stabilised_read t s p h i j k =
    let n = t.rank in
    let count = length t.words in
    let told = stab_told t s p in
    let trace = moves_row (codes "trace") s.trace ∷ [] in
    let ended = words_row (codes "end") s.end.words ∷ flow_rows s.end.rank 0 s.flows in
    let level = level_rows p.vertices in
    let parts = presentation_rows p in
    let read : PartsRead → AnswerRead = λ ps. record { answer = stabiliser t (done s ps.parts); heads = heads_from 0 s.flows; tree_heads = ps.heads } in
    let last : ReadsRows (λ q. with_parts n t (side_told s) q) told (level ++ parts) =
    reads_then (level_after n count) (λ vs. parts_after n s.end vs.0 vs.1 >>= λ ps. Ok (read ps.0, ps.1)) p.vertices told level parts
    (level_read n count p.vertices h k.vertices k.some k.few)
    (reads_as (parts_after n s.end p.vertices) (λ ps. Ok (read ps.0, ps.1)) (parts_told p) told parts (parts_read n count s.end p h k) (λ q. refl)) in
    let side : ReadsRows (λ q. with_stab n t q) told (trace ++ (ended ++ (level ++ parts))) =
    reads_then (stab_trace_after n) (λ ms. ended_after n count ms.0 ms.1 >>= λ s. with_parts n t s.0 s.1) s.trace told trace (ended ++ (level ++ parts))
    (trace_read n s.trace h j.trace)
    (reads_then (ended_after n count s.trace) (λ s. with_parts n t s.0 s.1) (side_told s) told ended (level ++ parts) (ended_read n count s h j) last) in
    reads_then (tuple_after (codes "tuple") n) (λ u. with_stab n u.0 u.1) t told (words_row (codes "tuple") t.words ∷ []) (stab_rows (done s p))
    (tuple_read (codes "tuple") t (written_shown 116 (codes "uple") refl) h i)
    (subst (ReadsRows (λ q. with_stab n t q) told) (ap (λ rows. trace ++ rows) (sym (append_assoc ended level parts))) side)

-- ---- the last line
done_shown : IsShownRow done_row
done_shown = record { keyword = written_shown 100 (codes "one") refl; fields = All-nil IsShown }

done_read : (p q : Reading) → Passes (done_row ∷ []) p q → (m : ℕ) → q.rest ≡ end m → done_after p ≡ Ok (tt, q)
unfolding done_after end_after
done_read p q passes m e =
    ap (λ r. r >>= λ k. cond (length k.0.fields == 0) (end_after k.1) (Err (errors.BadLine k.0.number))) (line_there (codes "done") p passes.0 passes.1 passes.2 passes.3.keyword)
    ∙ ap (λ fs. cond (length fs == 0) (end_after (behind p passes.0 passes.1)) (Err (errors.BadLine passes.0.number))) (no_fields passes.0.fields passes.3.same)
    ∙ ap end_after passes.4 ∙ ap (end_of q.taken) e ∙ ap (λ x. Ok (tt, record { taken = q.taken; rest = x })) (sym e)

-- ---- all lines
-- rows that tell an answer, where nothing follows them
pub record TellAnswer (told : AnswerRead) (rows : List Row) : Type 0 where
  pub shown : All IsShownRow rows
  pub read : (p q : Reading) (m : ℕ) → Passes rows p q → q.rest ≡ end m → answer_after p ≡ Ok (told, q)

all_read : (command : Command) (n : ℕ) (told : AnswerRead) (rows : List Row) → is_checked command ≡ true → 1 ≤ n → n ≤ greatest_rank command → ReadsRows (answer_with command n) told rows →
    TellAnswer told (heading_row command ∷ number_row (codes "rank") n ∷ rows ++ done_row ∷ [])
unfolding answer_after
all_read command n told rows checked l m inner =
    let heading = heading_read command checked in
    let rank = rank_read command n l m in
    let first = heading_row command ∷ [] in
    let second = number_row (codes "rank") n ∷ [] in
    record {
      shown = All-append IsShownRow first (second ++ rows ++ done_row ∷ []) heading.shown
          (All-append IsShownRow second (rows ++ done_row ∷ []) rank.shown (All-push IsShownRow rows done_row inner.shown done_shown));
      read = λ p q m passes e.
          let a = passes_split first (second ++ rows ++ done_row ∷ []) p q passes in
          let b = passes_split second (rows ++ done_row ∷ []) a.0 q a.2 in
          let c = passes_split rows (done_row ∷ []) b.0 q b.2 in
          ap (λ r. r >>= λ c. refused_as in_answer (rank_after c.0 c.1) >>= λ n. answer_with c.0 n.0 n.1 >>= λ a. with_end a.0 a.1) (heading.told p a.0 a.1)
          ∙ ap (λ r. r >>= λ n. answer_with command n.0 n.1 >>= λ a. with_end a.0 a.1) (rank.told a.0 b.0 b.1)
          ∙ ap (λ r. r >>= λ a. with_end a.0 a.1) (inner.told b.0 c.0 c.1)
          ∙ ap (λ r. r >>= λ end. Ok (told, end.1)) (done_read c.0 q c.2 m e);
    }

pub answer_read : (a : AnswerData) → IsCertificate a → TellAnswer (record { answer = a; heads = heads_of a; tree_heads = tree_heads_of a }) (rows_of a)
answer_read (reduce t s) h =
    all_read commands.Reduce t.rank (record { answer = reduce t s; heads = heads_from 0 s.flows; tree_heads = [] }) (words_row (codes "tuple") t.words ∷ side_rows s) refl h.1 h.2 (reduced_read t s h.2 h.0 h.3)
answer_read (decide s t v) h =
    let few : s.rank ≤ 26 = omega (arith, h.2) in
    all_read commands.Decide s.rank (record { answer = decide s t v; heads = verdict_heads v; tree_heads = [] }) (words_row (codes "first") s.words ∷ words_row (codes "second") t.words ∷ verdict_row v ∷ verdict_rows v) refl h.1 h.2 (decided_read s t v few h.0 h.3 h.4)
answer_read (straighten t given ms u) h = absurd h
answer_read (stabiliser t (done s p)) h =
    let few : t.rank ≤ 26 = omega (arith, h.2) in
    all_read commands.Stabiliser t.rank (stab_told t s p) (words_row (codes "tuple") t.words ∷ stab_rows (done s p)) refl h.1 h.2 (stabilised_read t s p few h.0 h.3.0 h.3.1)
answer_read (stabiliser t (stopped bound)) h = absurd h.3
