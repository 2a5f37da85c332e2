-- A certificate can be completed where a line of it is refused: for the law on the first bad line.
use Rattle.std.proofs.Common.{◌≡◌, ℕ, ◌≤◌, ◌==◌, Bool, true, false, cond, List, [], ◌∷◌, ◌++◌, length, refl, sym, ap, ◌∙◌, subst, arith, Ok, Err, inl, inr}
use Rattle.std.specs.Prelude.{codes, decimal}
use Rattle.std.proofs.lemmas.List.{length-map}
use Rattle.std.proofs.lemmas.List.Elements.{All-nil, All-cons}
use Rattle.std.proofs.lemmas.Bool.{eqb-true}
use Rattle.wh_words.specs.Limits.{most_rank, most_words}
use Rattle.wh_words.specs.CyclicWords.{cyclic_word}
use Rattle.wh_words.specs.Tuples.{TupleData}
use Rattle.wh_lines.specs.declared.read_error.ReadError.TheVariants as errors
use Rattle.wh_lines.specs.Readings.{◌>>=◌, refused_as}
use Rattle.wh_lines.specs.Rows.{Row, number_row}
use Rattle.wh_lines.specs.KeptLines.{Kept}
use Rattle.wh_lines.specs.KeptLines.Rest.{line}
use Rattle.wh_lines.specs.LineReadings.{Reading, line_after, end_after}
use Rattle.wh_lines.proofs.Equations.{bind_err}
use Rattle.wh_lines.proofs.NextLines.{behind, line_told}
use Rattle.wh_lines.proofs.PrintedRows.{IsShown, IsShownRow}
use Rattle.wh_lines.proofs.RowReadings.{Tells}
use Rattle.wh_lines.proofs.RestRows.{AllSome}
use Rattle.wh_lines.proofs.ExactReadings.{Then, Headed, Nothing, OneRow}
use Rattle.wh_lines.proofs.CompletedReadings.{Possible, Completed, Completes, completed_here, completes_none, completes_then, completes_as, completes_by, completes_line, completes_head, missing_stands, read_stands, end_stands}
use Rattle.wh_fields.proofs.ShownFields.{written_shown, decimal_shown}
use Rattle.wh_data.specs.declared.command.Command.{Command}
use Rattle.wh_data.specs.declared.command.Command.TheVariants as commands
use Rattle.wh_text.specs.RankLines.{greatest_rank, rank_at, rank_after}
use Rattle.wh_data.specs.AnswerData.VerdictData.{yes, no_length, no_level}
use Rattle.wh_data.specs.AnswerData.AnswerData.{reduce, decide}
use Rattle.wh_data.specs.Commands.{is_checked, heading_row}
use Rattle.wh_data.specs.AnswerTexts.{done_row}
use Rattle.wh_text.proofs.CommandNames.{heading_shown}
use Rattle.wh_text.specs.Certificates.{in_answer, tuple_after, like_after, moves_after, side_after, level_after, VerdictWord, verdict_in, sides_after, verdict_with, verdict_after, AnswerRead, reduced_after, decided_after, with_stab, stabilised_after, answer_with, heading_in, heading_after, done_after, with_end, answer_after}
use Rattle.wh_text.specs.Certificates.VerdictWord.{a_yes, a_no_length, a_no_level}
use Rattle.wh_text.specs.CertificateTexts.{IsTupleRow, IsLikeRow, IsMovesRow, IsLevelText, IsAnswerText}
use Rattle.wh_text.proofs.RankLaws.{rank_within}
use Rattle.wh_text.proofs.ExactLines.{same_row, IsSideRead, exact_tuple, exact_like, exact_moves, exact_side, exact_level}
use Rattle.wh_text.proofs.ExactParts.{Stabilises}
use Rattle.wh_text.proofs.ExactAnswers.{Sides, exact_sides, word_fields, word_row, word_told, Worded, WordIs, IsVerdictRead, verdict_is, exact_verdict, Reduced, Decided, Stabilised, Told}
use Rattle.wh_text.proofs.ExactCertificates.{HeadingIs, exact_heading, RankIs, exact_rank, body, Body, exact_body, body_there, no_length_fields, finish, answer_split}
use Rattle.wh_text.proofs.FirstLines.{verdict_in_line, heading_in_line, rank_in_line, rank_shape}
use Rattle.wh_text.proofs.CompletedLines.{completes_tuple, completes_like, completes_moves, completes_side, completes_level}
use Rattle.wh_text.proofs.CompletedParts.{completes_stab}

-- ---- verdicts
completes_sides : (n count : ℕ) → 1 ≤ n → n ≤ most_rank → count ≤ most_words → Completes (sides_after n count) (Sides n count)
unfolding sides_after
completes_sides n count some h few =
    completes_then (side_after n count) (λ a. side_after n count a.1 >>= λ b. Ok ((a.0, b.0), b.1)) (IsSideRead n count) (λ a. Then (IsSideRead n count) (λ b. Nothing (a, b)))
    (exact_side n count h) (completes_side n count some h few)
    (λ a _ _. completes_then (side_after n count) (λ b. Ok ((a, b.0), b.1)) (IsSideRead n count) (λ b. Nothing (a, b)) (exact_side n count h) (completes_side n count some h few) (λ b _ _. completes_none (a, b)))

completes_worded : (n count : ℕ) → 1 ≤ n → n ≤ most_rank → count ≤ most_words → (w : VerdictWord) → Completes (verdict_with n count w) (Worded n count w)
completes_worded n count some h few a_yes =
    completes_then (moves_after (codes "moves") n) (λ ms. Ok (record { verdict = yes ms.0; heads = [] }, ms.1)) (OneRow (IsMovesRow (codes "moves") n)) (λ ms. Nothing (record { verdict = yes ms; heads = [] }))
    (exact_moves (codes "moves") n h) (completes_moves (codes "moves") n (written_shown 109 (codes "oves") refl)) (λ ms _ _. completes_none (record { verdict = yes ms; heads = [] }))
completes_worded n count some h few a_no_length =
    completes_then (sides_after n count) (λ s. Ok (record { verdict = no_length s.0.0.side s.0.1.side; heads = s.0.0.heads ++ s.0.1.heads }, s.1)) (Sides n count)
    (λ s. Nothing (record { verdict = no_length s.0.side s.1.side; heads = s.0.heads ++ s.1.heads }))
    (exact_sides n count h) (completes_sides n count some h few) (λ s _ _. completes_none (record { verdict = no_length s.0.side s.1.side; heads = s.0.heads ++ s.1.heads }))
completes_worded n count some h few a_no_level =
    completes_then (sides_after n count) (λ s. level_after n count s.1 >>= λ ts. Ok (record { verdict = no_level s.0.0.side s.0.1.side ts.0; heads = s.0.0.heads ++ s.0.1.heads }, ts.1)) (Sides n count)
    (λ s. Then (IsLevelText n count) (λ ts. Nothing (record { verdict = no_level s.0.side s.1.side ts; heads = s.0.heads ++ s.1.heads })))
    (exact_sides n count h) (completes_sides n count some h few)
    (λ s _ _. completes_then (level_after n count) (λ ts. Ok (record { verdict = no_level s.0.side s.1.side ts.0; heads = s.0.heads ++ s.1.heads }, ts.1)) (IsLevelText n count)
    (λ ts. Nothing (record { verdict = no_level s.0.side s.1.side ts; heads = s.0.heads ++ s.1.heads }))
    (exact_level n count h) (completes_level n count h few) (λ ts _ _. completes_none (record { verdict = no_level s.0.side s.1.side ts; heads = s.0.heads ++ s.1.heads })))

yes_shown : IsShownRow (word_row a_yes)
yes_shown = record { keyword = written_shown 118 (codes "erdict") refl; fields = All-cons IsShown (codes "yes") [] (written_shown 121 (codes "es") refl) (All-nil IsShown) }

completes_verdict : (n count : ℕ) → 1 ≤ n → n ≤ most_rank → count ≤ most_words → Completes (verdict_after n count) (IsVerdictRead n count)
unfolding verdict_after
completes_verdict n count some h few =
    completes_as (verdict_after n count) (Headed WordIs (Worded n count)) (IsVerdictRead n count) (verdict_is n count)
    (completes_head (codes "verdict") (λ k. verdict_in k.number k.fields) (λ a. verdict_with n count a.0 a.1) WordIs (Worded n count) (word_row a_yes) a_yes refl yes_shown
    (λ k w some is e. same_row k (codes "verdict") (word_fields w) is (word_told k.number k.fields w e))
    (λ k m e. verdict_in_line k.number m k.fields e)
    (λ w. completes_worded n count some h few w))

-- ---- the lines of a command
few_words : (keyword : List ℕ) (n : ℕ) (rows : List Row) (t : TupleData) → OneRow (IsTupleRow keyword n) rows t → length t.words ≤ most_words
few_words keyword n rows t told =
    let is = told.one in
    omega (arith, is.few, ap (λ (u : TupleData). length u.words) is.cyclic, length-map is.written cyclic_word)

completes_reduced : (n : ℕ) → 1 ≤ n → n ≤ most_rank → Completes (reduced_after n) (Reduced n)
unfolding reduced_after
completes_reduced n some h =
    completes_then (tuple_after (codes "tuple") n) (λ t. side_after n (length t.0.words) t.1 >>= λ s. Ok (record { answer = reduce t.0 s.0.side; heads = s.0.heads; tree_heads = [] }, s.1))
    (OneRow (IsTupleRow (codes "tuple") n)) (λ t. Then (IsSideRead n (length t.words)) (λ s. Nothing (record { answer = reduce t s.side; heads = s.heads; tree_heads = [] })))
    (exact_tuple (codes "tuple") n h) (completes_tuple (codes "tuple") n (written_shown 116 (codes "uple") refl))
    (λ t rows told. completes_then (side_after n (length t.words)) (λ s. Ok (record { answer = reduce t s.0.side; heads = s.0.heads; tree_heads = [] }, s.1)) (IsSideRead n (length t.words)) (λ s. Nothing (record { answer = reduce t s.side; heads = s.heads; tree_heads = [] }))
    (exact_side n (length t.words) h) (completes_side n (length t.words) some h (few_words (codes "tuple") n rows t told)) (λ s _ _. completes_none (record { answer = reduce t s.side; heads = s.heads; tree_heads = [] })))

completes_decided : (n : ℕ) → 1 ≤ n → n ≤ most_rank → Completes (decided_after n) (Decided n)
unfolding decided_after
completes_decided n some h =
    completes_then (tuple_after (codes "first") n)
    (λ s. like_after (codes "second") n (length s.0.words) s.1 >>= λ t. verdict_after n (length s.0.words) t.1 >>= λ v. Ok (record { answer = decide s.0 t.0 v.0.verdict; heads = v.0.heads; tree_heads = [] }, v.1))
    (OneRow (IsTupleRow (codes "first") n))
    (λ s. Then (OneRow (IsLikeRow (codes "second") n (length s.words))) (λ t. Then (IsVerdictRead n (length s.words)) (λ v. Nothing (record { answer = decide s t v.verdict; heads = v.heads; tree_heads = [] }))))
    (exact_tuple (codes "first") n h) (completes_tuple (codes "first") n (written_shown 102 (codes "irst") refl))
    (λ s rows told. let few = few_words (codes "first") n rows s told in
    completes_then (like_after (codes "second") n (length s.words)) (λ t. verdict_after n (length s.words) t.1 >>= λ v. Ok (record { answer = decide s t.0 v.0.verdict; heads = v.0.heads; tree_heads = [] }, v.1))
    (OneRow (IsLikeRow (codes "second") n (length s.words))) (λ t. Then (IsVerdictRead n (length s.words)) (λ v. Nothing (record { answer = decide s t v.verdict; heads = v.heads; tree_heads = [] })))
    (exact_like (codes "second") n (length s.words) h) (completes_like (codes "second") n (length s.words) (written_shown 115 (codes "econd") refl) few)
    (λ t _ _. completes_then (verdict_after n (length s.words)) (λ v. Ok (record { answer = decide s t v.0.verdict; heads = v.0.heads; tree_heads = [] }, v.1)) (IsVerdictRead n (length s.words)) (λ v. Nothing (record { answer = decide s t v.verdict; heads = v.heads; tree_heads = [] }))
    (exact_verdict n (length s.words) h) (completes_verdict n (length s.words) some h few) (λ v _ _. completes_none (record { answer = decide s t v.verdict; heads = v.heads; tree_heads = [] }))))

completes_stabilised : (n : ℕ) → 1 ≤ n → n ≤ most_rank → Completes (stabilised_after n) (Stabilised n)
unfolding stabilised_after
completes_stabilised n some h =
    completes_then (tuple_after (codes "tuple") n) (λ t. with_stab n t.0 t.1) (OneRow (IsTupleRow (codes "tuple") n)) (Stabilises n) (exact_tuple (codes "tuple") n h) (completes_tuple (codes "tuple") n (written_shown 116 (codes "uple") refl))
    (λ t rows told. completes_stab n t some h (few_words (codes "tuple") n rows t told))

completes_told : (c : Command) (n : ℕ) → is_checked c ≡ true → 1 ≤ n → n ≤ most_rank → Completes (answer_with c n) (Told c n)
completes_told commands.Reduce n checked some h = completes_reduced n some h
completes_told commands.Decide n checked some h = completes_decided n some h
completes_told commands.Straighten n checked some h = absurd (cc)
completes_told commands.Stabiliser n checked some h = completes_stabilised n some h

-- ---- the heading and the rank
completes_heading : Completes heading_after (OneRow HeadingIs)
unfolding heading_after
completes_heading =
    completes_line (codes "whitehead") (λ k. heading_in k.number k.fields) HeadingIs (heading_row commands.Reduce) commands.Reduce (refl, refl) (heading_shown commands.Reduce)
    (λ k m e. heading_in_line k.number m k.fields e)

some_rank : (c : Command) → 1 ≤ greatest_rank c
some_rank commands.Reduce = omega arith
some_rank commands.Decide = omega arith
some_rank commands.Straighten = omega arith
some_rank commands.Stabiliser = omega arith

completes_rank : (c : Command) → Completes (λ p. refused_as in_answer (rank_after c p)) (OneRow (RankIs c))
unfolding rank_after line_after
completes_rank c =
    completes_by (λ p. line_after (codes "rank") p >>= λ k. refused_as in_answer (rank_at c k.0.number k.0.fields) >>= λ n. Ok (n, k.1)) (λ p. refused_as in_answer (rank_after c p)) (OneRow (RankIs c))
    (λ p. rank_shape c p.taken p.rest)
    (completes_line (codes "rank") (λ k. refused_as in_answer (rank_at c k.number k.fields)) (RankIs c) (number_row (codes "rank") 1) 1
    (record { spelled = refl; least = omega arith; most = some_rank c })
    (record { keyword = written_shown 114 (codes "ank") refl; fields = All-cons IsShown (decimal 1) [] (decimal_shown 1 (omega arith)) (All-nil IsShown) })
    (λ k m e. rank_in_line c k.number m k.fields e))

-- ---- the last line
-- The rows behind an answer.
abbrev Finished : AnswerRead → List Row → AnswerRead → Type 0
Finished a rows b = (rows ≡ done_row ∷ []) × (a ≡ b)

done_shown : IsShownRow done_row
done_shown = record { keyword = written_shown 100 (codes "one") refl; fields = All-nil IsShown }

-- a line behind the last one is refused
completed_past : (a : AnswerRead) (p : Reading) (l : ℕ) (k : Kept × Reading) → AllSome p.rest → line_after (codes "done") p ≡ Ok k → length k.0.fields ≡ 0 → end_after k.1 ≡ Err (errors.BadLine l) → Completed (Finished a) p l
completed_past a p l k some e none h =
    let line_is = line_told (codes "done") p k e in
    let all : AllSome (line k.0 k.1.rest) = subst AllSome line_is.0 some in
    let tells : Tells done_row k.0 = record { keyword = line_is.2; some = all.0; same = no_length_fields k.0.fields none } in
    let place : behind p k.0 k.1.rest ≡ k.1 = ap (λ ns. record { taken = ns; rest = k.1.rest }) (sym line_is.1) in
    record { passed = done_row ∷ []; at = k.1; passes = (k.0, k.1.rest, line_is.0, tells, place); stands = end_stands k.1 l h; more = []; shown = All-nil IsShownRow; x = a; told = (refl, refl) }

completes_done : (a : AnswerRead) → Completes (λ p. with_end a p) (Finished a)
unfolding done_after
completes_done a = record { possible = possible; complete = λ p l some e. refused p l some (first p l e) }
  where
    possible : Possible (Finished a)
    possible = record { x = a; rows = done_row ∷ []; told = (refl, refl); shown = All-cons IsShownRow done_row [] done_shown (All-nil IsShownRow) }

    first : (p : Reading) (l : ℕ) → with_end a p ≡ Err (errors.BadLine l) → done_after p ≡ Err (errors.BadLine l)
    first p l e = elim (bind_err (done_after p) (λ end. Ok (a, end.1)) (errors.BadLine l) e) [
      | inl w ↦ w
      | inr s ↦ (let never = s.2 in absurd (cc))
    ]

    read : (p : Reading) (l : ℕ) (k : Kept × Reading) (t : Bool) → AllSome p.rest → line_after (codes "done") p ≡ Ok k → (length k.0.fields == 0) ≡ t → cond t (end_after k.1) (Err (errors.BadLine k.0.number)) ≡ Err (errors.BadLine l) → Completed (Finished a) p l
    read p l k true some e none h = completed_past a p l k some e (eqb-true (length k.0.fields) 0 none) h
    read p l k false some e none h = completed_here (Finished a) p l (read_stands (codes "done") p l k e (cc)) possible

    refused : (p : Reading) (l : ℕ) → AllSome p.rest → done_after p ≡ Err (errors.BadLine l) → Completed (Finished a) p l
    refused p l some e = elim (bind_err (line_after (codes "done") p) (λ k. cond (length k.0.fields == 0) (end_after k.1) (Err (errors.BadLine k.0.number))) (errors.BadLine l) e) [
      | inl w ↦ completed_here (Finished a) p l (missing_stands (codes "done") p l w) possible
      | inr s ↦ read p l s.0 (length s.0.0.fields == 0) some s.1 refl s.2
    ]

-- ---- the whole text
completes_body : Completes body Body
completes_body =
    completes_then heading_after (λ c. refused_as in_answer (rank_after c.0 c.1) >>= λ n. answer_with c.0 n.0 n.1) (OneRow HeadingIs) (λ c. Then (OneRow (RankIs c)) (Told c))
    exact_heading completes_heading
    (λ c _ headed. completes_then (λ p. refused_as in_answer (rank_after c p)) (λ n. answer_with c n.0 n.1) (OneRow (RankIs c)) (Told c) (exact_rank c) (completes_rank c)
    (λ n rows told. completes_told c n headed.one.1 told.one.least (omega (arith, told.one.most, rank_within c))))

-- The rows of a whole certificate.
abbrev pub IsAnswerRead : List Row → AnswerRead → Type 0
IsAnswerRead rows x = IsAnswerText rows x.answer x.heads x.tree_heads

answer_there : (rows : List Row) (x : AnswerRead) → Then Body Finished rows x → IsAnswerRead rows x
answer_there rows x s =
    let parts : rows ≡ s.first ++ done_row ∷ [] = s.parts ∙ ap (λ rs. s.first ++ rs) s.two.0 in
    subst (IsAnswerRead rows) s.two.1 (subst (λ (rs : List Row). IsAnswerRead rs s.x) (sym parts) (body_there s.first s.x s.one))

pub completes_answer : Completes answer_after IsAnswerRead
completes_answer =
    completes_as answer_after (Then Body Finished) IsAnswerRead answer_there
    (completes_by (λ p. body p >>= finish) answer_after (Then Body Finished) (λ p. answer_split p)
    (completes_then body finish Body Finished exact_body completes_body (λ a _ _. completes_done a)))
