-- A certificate is refused at a line by the lines up to it: for the law on refused lines.
use Rattle.std.proofs.Common.{◌≡◌, ℕ, ◌+◌, ltb, ◌==◌, Bool, true, false, cond, List, [], ◌∷◌, ◌++◌, length, map, refl, sym, ap, subst, arith, None, Some, Result, Ok, Err, inl, inr}
use Rattle.std.specs.Prelude.{◌&&◌, ◌||◌, leb, is_some, codes}
use Rattle.std.specs.declared.option.Option.{Option}
use Rattle.std.specs.List.{sum_by}
use Rattle.wh_words.specs.Limits.{most_rank, most_words, most_letters, most_level_tuples}
use Rattle.wh_words.specs.CyclicWords.{cyclic_word}
use Rattle.wh_words.specs.Tuples.{TupleData}
use Rattle.wh_words.specs.Moves.{Move}
use Rattle.wh_lines.specs.declared.read_error.ReadError.{ReadError}
use Rattle.wh_lines.specs.declared.read_error.ReadError.TheVariants as errors
use Rattle.wh_lines.specs.Lines.{Field, lines, are}
use Rattle.wh_lines.specs.Numbers.{number}
use Rattle.wh_lines.specs.Readings.{◌>>=◌, or_bad_line, refused_as}
use Rattle.wh_lines.specs.KeptLines.{Kept, Rest, rest}
use Rattle.wh_lines.specs.KeptLines.Rest.{line, bad_byte, end}
use Rattle.wh_lines.specs.LineReadings.{Reading, start, line_after, line_of, end_after, times}
use Rattle.wh_lines.proofs.Equations.{bind_err, err_is}
use Rattle.wh_lines.proofs.LocalReadings.{Agree, rest_agree, Past, Alike, went, refused, past, InLine, Local, local_none, local_then, local_by, local_head, local_line, local_times, local_end, items_err, bad_line_is}
use Rattle.wh_fields.specs.Words.{letter_of, letter_at, letters_at, word_at}
use Rattle.wh_fields.specs.TupleFields.{words_at, short_tuple, tuple_at}
use Rattle.wh_fields.specs.MoveFields.{kind_in, move_with, or_bad_move, move_at, moves_at}
use Rattle.wh_fields.specs.FlowFields.{flow_in}
use Rattle.wh_data.specs.declared.command.Command.{Command}
use Rattle.wh_data.specs.declared.command.Command.TheVariants as commands
use Rattle.wh_data.specs.Limits.{most_answer_bytes}
use Rattle.wh_data.specs.Commands.{command_named, is_checked, is_unchecked_name, answer_version}
use Rattle.wh_text.specs.RankLines.{greatest_rank, rank_at, rank_number, no_rank, rank_after}
use Rattle.wh_data.specs.AnswerData.{CertificateData}
use Rattle.wh_data.specs.AnswerData.VerdictData.{yes, no_length, no_level}
use Rattle.wh_data.specs.AnswerData.StabVerdictData.{done}
use Rattle.wh_data.specs.AnswerData.AnswerData.{reduce, decide, stabiliser}
use Rattle.wh_text.specs.Certificates.{in_answer, tuple_after, like_of, like_after, moves_after, flow_after, side_with, side_after, number_in, level_after, VerdictWord, verdict_in, sides_after, verdict_with, verdict_after, AnswerRead, reduced_after, decided_after, unless_undecided, parts_after, with_parts, with_stab, stabilised_after, answer_with, checked_command, command_at, heading_in, heading_after, done_after, answer_after, certificate}
use Rattle.wh_text.specs.Certificates.VerdictWord.{a_yes, a_no_length, a_no_level}
use Rattle.wh_text.specs.CertificateTexts.{IsCertificateText}
use Rattle.wh_text.proofs.ExactParts.{stab_lines, stab_split}
use Rattle.wh_text.proofs.FirstParts.{local_parts, local_undecided}
use Rattle.wh_text.proofs.ExactCertificates.{body, finish, answer_split, certified, answer_back}

-- ---- tuples
letter_err : (l c : ℕ) (o : Option ℕ) (d : ReadError) → letter_at l c o ≡ Err d → in_answer d ≡ errors.BadLine l
letter_err l c None d e = ap in_answer (sym (err_is (errors.BadLetter l c) d e))
letter_err l c (Some x) d e = absurd (cc)

letters_err : (n l c : ℕ) (bs : List ℕ) (d : ReadError) → letters_at n l c bs ≡ Err d → in_answer d ≡ errors.BadLine l
unfolding letters_at
letters_err n l c [] d e = absurd (cc)
letters_err n l c (b ∷ bs) d e = elim (bind_err (letter_at l c (letter_of n b)) (λ x. letters_at n l (c + 1) bs >>= λ xs. Ok (x ∷ xs)) d e) [
  | inl w ↦ letter_err l c (letter_of n b) d w
  | inr s ↦ elim (bind_err (letters_at n l (c + 1) bs) (λ xs. Ok (s.0 ∷ xs)) d s.2) [
    | inl w ↦ letters_err n l (c + 1) bs d w
    | inr u ↦ (let never = u.2 in absurd (cc))
  ]
]

word_err : (n l : ℕ) (f : Field) (d : ReadError) → word_at n l f ≡ Err d → in_answer d ≡ errors.BadLine l
word_err n l f d e = by (are f.bytes (codes "1")) e
  where
    by : (t : Bool) → cond t (Ok []) (letters_at n l f.column f.bytes) ≡ Err d → in_answer d ≡ errors.BadLine l
    by true e = absurd (cc)
    by false e = letters_err n l f.column f.bytes d e

short_err : (n l : ℕ) (ws : List (List ℕ)) (d : ReadError) → short_tuple n l ws ≡ Err d → in_answer d ≡ errors.BadLine l
short_err n l ws d e = by (ltb most_letters (sum_by length ws)) (record { rank = n; words = map cyclic_word ws }) e
  where
    by : (t : Bool) (u : TupleData) → cond t (Err (errors.LongTuple l (sum_by length ws))) (Ok u) ≡ Err d → in_answer d ≡ errors.BadLine l
    by true u e = ap in_answer (sym (err_is (errors.LongTuple l (sum_by length ws)) d e))
    by false u e = absurd (cc)

tuple_err : (n l : ℕ) (fs : List Field) (d : ReadError) → tuple_at n l fs ≡ Err d → in_answer d ≡ errors.BadLine l
unfolding tuple_at
tuple_err n l fs d e = by (ltb most_words (length fs)) e
  where
    by : (t : Bool) → cond t (Err (errors.TooManyWords l (length fs))) (words_at n l fs >>= λ ws. short_tuple n l ws) ≡ Err d → in_answer d ≡ errors.BadLine l
    by true e = ap in_answer (sym (err_is (errors.TooManyWords l (length fs)) d e))
    by false e = elim (bind_err (words_at n l fs) (λ ws. short_tuple n l ws) d e) [
      | inl w ↦ items_err (λ d. in_answer d ≡ errors.BadLine l) (word_at n l) (λ f d e. word_err n l f d e) fs d w
      | inr s ↦ short_err n l s.0 d s.2
    ]

refused_err : {A : Type 0} (r : Result A ReadError) (l m : ℕ) → ((d : ReadError) → r ≡ Err d → in_answer d ≡ errors.BadLine m) → refused_as in_answer r ≡ Err (errors.BadLine l) → m ≡ l
refused_err (Ok x) l m h e = absurd (cc)
refused_err (Err d) l m h e = let at = h d refl in cc

pub tuple_in : (n : ℕ) → InLine (λ k. refused_as in_answer (tuple_at n k.number k.fields))
tuple_in n k l e = refused_err (tuple_at n k.number k.fields) l k.number (λ d h. tuple_err n k.number k.fields d h) e

pub like_in : (n count : ℕ) → InLine (like_of n count)
unfolding like_of
like_in n count k l e = elim (bind_err (refused_as in_answer (tuple_at n k.number k.fields)) (λ t. cond (length t.words == count) (Ok t) (Err (errors.BadLine k.number))) (errors.BadLine l) e) [
  | inl w ↦ tuple_in n k l w
  | inr s ↦ by s.0 (length s.0.words == count) s.2
]
  where
    by : (t : TupleData) (b : Bool) → cond b (Ok t) (Err (errors.BadLine k.number)) ≡ Err (errors.BadLine l) → k.number ≡ l
    by t true e = absurd (cc)
    by t false e = cc

local_tuple : (l : ℕ) (keyword : List ℕ) (n : ℕ) → Local l (tuple_after keyword n)
unfolding tuple_after
local_tuple l keyword n = local_line l keyword (λ k. refused_as in_answer (tuple_at n k.number k.fields)) (tuple_in n)

local_like : (l : ℕ) (keyword : List ℕ) (n count : ℕ) → Local l (like_after keyword n count)
unfolding like_after
local_like l keyword n count = local_line l keyword (like_of n count) (like_in n count)

-- ---- moves and flows
move_err : (l c : ℕ) (o : Option Move) (d : ReadError) → or_bad_move l c o ≡ Err d → in_answer d ≡ errors.BadLine l
move_err l c None d e = ap in_answer (sym (err_is (errors.BadMove l c) d e))
move_err l c (Some m) d e = absurd (cc)

moves_err : (n l : ℕ) (fs : List Field) (d : ReadError) → moves_at n l fs ≡ Err d → in_answer d ≡ errors.BadLine l
moves_err n l fs d e = items_err (λ d. in_answer d ≡ errors.BadLine l) (move_at n l) (λ f d h. move_err l f.column (move_with n (kind_in n f.bytes)) d h) fs d e

pub moves_in : (n : ℕ) → InLine (λ k. refused_as in_answer (moves_at n k.number k.fields))
moves_in n k l e = refused_err (moves_at n k.number k.fields) l k.number (λ d h. moves_err n k.number k.fields d h) e

local_moves : (l : ℕ) (keyword : List ℕ) (n : ℕ) → Local l (moves_after keyword n)
unfolding moves_after
local_moves l keyword n = local_line l keyword (λ k. refused_as in_answer (moves_at n k.number k.fields)) (moves_in n)

local_flow : (l n : ℕ) → Local l (flow_after n)
unfolding flow_after
local_flow l n = local_line l (codes "flow") (λ k. or_bad_line k.number (flow_in n k.fields)) (λ k m e. bad_line_is k.number m (flow_in n k.fields) e)

-- ---- sides and levels
local_side : (l n count : ℕ) → Local l (side_after n count)
unfolding side_after
local_side l n count =
    local_then l (moves_after (codes "trace") n) (λ ms. like_after (codes "end") n count ms.1 >>= λ t. times (flow_after n) n t.1 >>= λ fs. Ok (side_with ms.0 t.0 fs.0, fs.1)) (local_moves l (codes "trace") n)
    (λ ms. local_then l (like_after (codes "end") n count) (λ t. times (flow_after n) n t.1 >>= λ fs. Ok (side_with ms t.0 fs.0, fs.1)) (local_like l (codes "end") n count)
    (λ t. local_then l (times (flow_after n) n) (λ fs. Ok (side_with ms t fs.0, fs.1)) (local_times l (flow_after n) n (local_flow l n)) (λ fs. local_none l (side_with ms t fs))))

local_level : (l n count : ℕ) → Local l (level_after n count)
unfolding level_after
local_level l n count =
    local_head l (codes "level") (λ k. or_bad_line k.number (number_in 1 most_level_tuples k.fields)) (λ a. times (like_after (codes "at") n count) a.0 a.1)
    (λ k m e. bad_line_is k.number m (number_in 1 most_level_tuples k.fields) e)
    (λ size. local_times l (like_after (codes "at") n count) size (local_like l (codes "at") n count))

local_sides : (l n count : ℕ) → Local l (sides_after n count)
unfolding sides_after
local_sides l n count =
    local_then l (side_after n count) (λ a. side_after n count a.1 >>= λ b. Ok ((a.0, b.0), b.1)) (local_side l n count)
    (λ a. local_then l (side_after n count) (λ b. Ok ((a, b.0), b.1)) (local_side l n count) (λ b. local_none l (a, b)))

-- ---- verdicts
bad_if : {A : Type 0} (t : Bool) (x : A) (m l : ℕ) → ◌≡◌ {A = Result A ReadError} (cond t (Ok x) (Err (errors.BadLine m))) (Err (errors.BadLine l)) → m ≡ l
bad_if true x m l e = absurd (cc)
bad_if false x m l e = cc

bad_unless : {A : Type 0} (t : Bool) (m l : ℕ) → ◌≡◌ {A = Result A ReadError} (cond t (Err (errors.NoCertificate m)) (Err (errors.BadLine m))) (Err (errors.BadLine l)) → m ≡ l
bad_unless true m l e = absurd (cc)
bad_unless false m l e = cc

pub verdict_in_line : (m l : ℕ) (fs : List Field) → verdict_in m fs ≡ Err (errors.BadLine l) → m ≡ l
unfolding verdict_in
verdict_in_line m l [] e = cc
verdict_in_line m l (f ∷ []) e = bad_if (are f.bytes (codes "yes")) a_yes m l e
verdict_in_line m l (f ∷ g ∷ []) e = by (are f.bytes (codes "no") && are g.bytes (codes "length")) e
  where
    by : (t : Bool) → cond t (Ok a_no_length) (cond (are f.bytes (codes "no") && are g.bytes (codes "level")) (Ok a_no_level) (Err (errors.BadLine m))) ≡ Err (errors.BadLine l) → m ≡ l
    by true e = absurd (cc)
    by false e = bad_if (are f.bytes (codes "no") && are g.bytes (codes "level")) a_no_level m l e
verdict_in_line m l (f ∷ g ∷ h ∷ []) e = bad_unless (are f.bytes (codes "undecided") && ((are g.bytes (codes "length") || are g.bytes (codes "level")) && is_some (number h.bytes))) m l e
verdict_in_line m l (f ∷ g ∷ h ∷ i ∷ fs) e = cc

local_word : (l n count : ℕ) (w : VerdictWord) → Local l (verdict_with n count w)
local_word l n count a_yes = local_then l (moves_after (codes "moves") n) (λ ms. Ok (record { verdict = yes ms.0; heads = [] }, ms.1)) (local_moves l (codes "moves") n) (λ ms. local_none l (record { verdict = yes ms; heads = [] }))
local_word l n count a_no_length =
    local_then l (sides_after n count) (λ s. Ok (record { verdict = no_length s.0.0.side s.0.1.side; heads = s.0.0.heads ++ s.0.1.heads }, s.1)) (local_sides l n count)
    (λ s. local_none l (record { verdict = no_length s.0.side s.1.side; heads = s.0.heads ++ s.1.heads }))
local_word l n count a_no_level =
    local_then l (sides_after n count) (λ s. level_after n count s.1 >>= λ ts. Ok (record { verdict = no_level s.0.0.side s.0.1.side ts.0; heads = s.0.0.heads ++ s.0.1.heads }, ts.1)) (local_sides l n count)
    (λ s. local_then l (level_after n count) (λ ts. Ok (record { verdict = no_level s.0.side s.1.side ts.0; heads = s.0.heads ++ s.1.heads }, ts.1)) (local_level l n count)
    (λ ts. local_none l (record { verdict = no_level s.0.side s.1.side ts; heads = s.0.heads ++ s.1.heads })))

local_verdict : (l n count : ℕ) → Local l (verdict_after n count)
unfolding verdict_after
local_verdict l n count =
    local_head l (codes "verdict") (λ k. verdict_in k.number k.fields) (λ a. verdict_with n count a.0 a.1) (λ k m e. verdict_in_line k.number m k.fields e) (λ w. local_word l n count w)

-- ---- the lines of a command
local_reduced : (l n : ℕ) → Local l (reduced_after n)
unfolding reduced_after
local_reduced l n =
    local_then l (tuple_after (codes "tuple") n) (λ t. side_after n (length t.0.words) t.1 >>= λ s. Ok (record { answer = reduce t.0 s.0.side; heads = s.0.heads; tree_heads = [] }, s.1)) (local_tuple l (codes "tuple") n)
    (λ t. local_then l (side_after n (length t.words)) (λ s. Ok (record { answer = reduce t s.0.side; heads = s.0.heads; tree_heads = [] }, s.1)) (local_side l n (length t.words))
    (λ s. local_none l (record { answer = reduce t s.side; heads = s.heads; tree_heads = [] })))

local_decided : (l n : ℕ) → Local l (decided_after n)
unfolding decided_after
local_decided l n =
    local_then l (tuple_after (codes "first") n)
    (λ s. like_after (codes "second") n (length s.0.words) s.1 >>= λ t. verdict_after n (length s.0.words) t.1 >>= λ v. Ok (record { answer = decide s.0 t.0 v.0.verdict; heads = v.0.heads; tree_heads = [] }, v.1))
    (local_tuple l (codes "first") n)
    (λ s. local_then l (like_after (codes "second") n (length s.words)) (λ t. verdict_after n (length s.words) t.1 >>= λ v. Ok (record { answer = decide s t.0 v.0.verdict; heads = v.0.heads; tree_heads = [] }, v.1))
    (local_like l (codes "second") n (length s.words))
    (λ t. local_then l (verdict_after n (length s.words)) (λ v. Ok (record { answer = decide s t v.0.verdict; heads = v.0.heads; tree_heads = [] }, v.1)) (local_verdict l n (length s.words))
    (λ v. local_none l (record { answer = decide s t v.verdict; heads = v.heads; tree_heads = [] }))))

local_stab : (l n : ℕ) (t : TupleData) → Local l (with_stab n t)
local_stab l n t =
    local_by l (λ p. unless_undecided p.rest (stab_lines n t p)) (with_stab n t) (stab_split n t)
    (local_undecided l (stab_lines n t)
    (local_then l (side_after n (length t.words)) (λ s. with_parts n t s.0 s.1) (local_side l n (length t.words))
    (λ s. local_then l (level_after n (length t.words)) (λ vs. parts_after n s.side.end vs.0 vs.1 >>= λ ps. Ok (record { answer = stabiliser t (done s.side ps.0.parts); heads = s.heads; tree_heads = ps.0.heads }, ps.1))
    (local_level l n (length t.words))
    (λ vs. local_then l (parts_after n s.side.end vs) (λ ps. Ok (record { answer = stabiliser t (done s.side ps.0.parts); heads = s.heads; tree_heads = ps.0.heads }, ps.1)) (local_parts l n s.side.end vs)
    (λ ps. local_none l (record { answer = stabiliser t (done s.side ps.parts); heads = s.heads; tree_heads = ps.heads }))))))

local_stabilised : (l n : ℕ) → Local l (stabilised_after n)
unfolding stabilised_after
local_stabilised l n = local_then l (tuple_after (codes "tuple") n) (λ t. with_stab n t.0 t.1) (local_tuple l (codes "tuple") n) (λ t. local_stab l n t)

-- answers that can't be checked
local_refused : (l : ℕ) → Local {A = AnswerRead} l (λ p. Err (errors.NoCertificate 1))
local_refused l = record { alike = λ p q h. refused (errors.NoCertificate 1) (errors.NoCertificate 1); far = λ p h same. absurd (cc) }

local_told : (l : ℕ) (c : Command) (n : ℕ) → Local l (answer_with c n)
local_told l commands.Reduce n = local_reduced l n
local_told l commands.Decide n = local_decided l n
local_told l commands.Straighten n = local_refused l
local_told l commands.Stabiliser n = local_stabilised l n

-- ---- the heading and the rank
pub heading_in_line : (m l : ℕ) (fs : List Field) → heading_in m fs ≡ Err (errors.BadLine l) → m ≡ l
heading_in_line m l [] e = cc
heading_in_line m l (f ∷ []) e = cc
heading_in_line m l (f ∷ g ∷ []) e = by (are f.bytes answer_version) e
  where
    checked : (t : Bool) (command : Command) → ◌≡◌ {A = Result Command ReadError} (cond t (Ok command) (Err (errors.NoCertificate m))) (Err (errors.BadLine l)) → m ≡ l
    checked true command e = absurd (cc)
    checked false command e = absurd (cc)

    named : (found : Option Command) → checked_command m g.bytes found ≡ Err (errors.BadLine l) → m ≡ l
    named (Some command) e = checked (is_checked command) command e
    named None e = bad_unless (is_unchecked_name g.bytes) m l e

    by : (s : Bool) → cond s (command_at m g.bytes) (Err (errors.BadLine m)) ≡ Err (errors.BadLine l) → m ≡ l
    by false e = cc
    by true e = named (command_named g.bytes) e
heading_in_line m l (f ∷ g ∷ h ∷ fs) e = cc

local_heading : (l : ℕ) → Local l heading_after
unfolding heading_after
local_heading l = local_line l (codes "whitehead") (λ k. heading_in k.number k.fields) (λ k m e. heading_in_line k.number m k.fields e)

pub rank_in_line : (c : Command) (m l : ℕ) (fs : List Field) → refused_as in_answer (rank_at c m fs) ≡ Err (errors.BadLine l) → m ≡ l
rank_in_line c m l [] e = cc
rank_in_line c m l (f ∷ []) e = by (number f.bytes) e
  where
    by : (o : Option ℕ) → refused_as in_answer (rank_number c m o) ≡ Err (errors.BadLine l) → m ≡ l
    by None e = cc
    by (Some n) e = both (leb 1 n && leb n most_rank) (leb n (greatest_rank c)) e
      where
        both : (s t : Bool) → refused_as in_answer (cond s (cond t (Ok n) (Err (errors.LevelRank n))) (Err (errors.RankRange m))) ≡ Err (errors.BadLine l) → m ≡ l
        both false t e = cc
        both true true e = absurd (cc)
        both true false e = absurd (cc)
rank_in_line c m l (f ∷ g ∷ fs) e = cc

abbrev ranked : Reading → ℕ → Result (ℕ × Reading) ReadError
ranked p n = Ok (n, p)

abbrev here : List ℕ → Kept → Rest → Result (Kept × Reading) ReadError
here taken k later = Ok (k, record { taken = taken ++ k.number ∷ []; rest = later })

pub rank_shape : (c : Command) (taken : List ℕ) (r : Rest) →
    refused_as in_answer (refused_as no_rank (line_of (codes "rank") taken r) >>= λ k. rank_at c k.0.number k.0.fields >>= ranked k.1) ≡ (line_of (codes "rank") taken r >>= λ k. refused_as in_answer (rank_at c k.0.number k.0.fields) >>= ranked k.1)
rank_shape c taken (line k later) = by (are k.keyword (codes "rank"))
  where
    told : (r : Result ℕ ReadError) → refused_as in_answer (r >>= ranked (record { taken = taken ++ k.number ∷ []; rest = later })) ≡ (refused_as in_answer r >>= ranked (record { taken = taken ++ k.number ∷ []; rest = later }))
    told (Ok n) = refl
    told (Err d) = refl

    by : (t : Bool) →
        refused_as in_answer (refused_as no_rank (cond t (here taken k later) (Err (errors.BadLine k.number))) >>= λ k. rank_at c k.0.number k.0.fields >>= ranked k.1)
        ≡ (cond t (here taken k later) (Err (errors.BadLine k.number)) >>= λ k. refused_as in_answer (rank_at c k.0.number k.0.fields) >>= ranked k.1)
    by true = told (rank_at c k.number k.fields)
    by false = refl
rank_shape c taken (bad_byte m column) = refl
rank_shape c taken (end m) = refl

local_rank : (l : ℕ) (c : Command) → Local l (λ p. refused_as in_answer (rank_after c p))
unfolding rank_after line_after
local_rank l c =
    local_by l (λ p. line_after (codes "rank") p >>= λ k. refused_as in_answer (rank_at c k.0.number k.0.fields) >>= λ n. Ok (n, k.1)) (λ p. refused_as in_answer (rank_after c p))
    (λ p. rank_shape c p.taken p.rest)
    (local_line l (codes "rank") (λ k. refused_as in_answer (rank_at c k.number k.fields)) (λ k m e. rank_in_line c k.number m k.fields e))

-- ---- the last line
done_shape : (r : Result (Kept × Reading) ReadError) →
    (r >>= λ k. cond (length k.0.fields == 0) (end_after k.1) (Err (errors.BadLine k.0.number))) ≡ (r >>= λ k. cond (length k.0.fields == 0) (Ok tt) (Err (errors.BadLine k.0.number)) >>= λ (x : Unit {0}). end_after k.1)
done_shape (Err e) = refl
done_shape (Ok k) = by (length k.0.fields == 0)
  where
    by : (t : Bool) → cond t (end_after k.1) (Err (errors.BadLine k.0.number)) ≡ (cond t (Ok tt) (Err (errors.BadLine k.0.number)) >>= λ (x : Unit {0}). end_after k.1)
    by true = refl
    by false = refl

local_done : (l : ℕ) → Local l done_after
unfolding done_after
local_done l =
    local_by l (λ p. line_after (codes "done") p >>= λ k. cond (length k.0.fields == 0) (Ok tt) (Err (errors.BadLine k.0.number)) >>= λ (x : Unit {0}). end_after k.1) done_after
    (λ p. done_shape (line_after (codes "done") p))
    (local_head l (codes "done") (λ k. cond (length k.fields == 0) (Ok tt) (Err (errors.BadLine k.number))) (λ x. end_after x.1) (λ k m e. bad_if (length k.fields == 0) tt k.number m e) (λ x. local_end l))

-- ---- the whole text
local_body : (l : ℕ) → Local l body
local_body l =
    local_then l heading_after (λ c. refused_as in_answer (rank_after c.0 c.1) >>= λ n. answer_with c.0 n.0 n.1) (local_heading l)
    (λ c. local_then l (λ p. refused_as in_answer (rank_after c p)) (λ n. answer_with c n.0 n.1) (local_rank l c) (λ n. local_told l c n))

local_answer : (l : ℕ) → Local l answer_after
local_answer l =
    local_by l (λ p. body p >>= finish) answer_after (λ p. answer_split p)
    (local_then l body finish (local_body l) (λ a. local_then l done_after (λ end. Ok (a, end.1)) (local_done l) (λ u. local_none l a)))

past_not : {A : Type 0} (l : ℕ) (r : Result (A × Reading) ReadError) → Past l r → r ≡ Err (errors.BadLine l) → ⊥
past_not l (Ok x) h e = absurd (cc)
past_not l (Err d) h e = h (err_is d (errors.BadLine l) e)

alike_refused : {A : Type 0} (l : ℕ) (r s : Result (A × Reading) ReadError) (x : A × Reading) → Alike l r s → r ≡ Err (errors.BadLine l) → s ≡ Ok x → ⊥
alike_refused l r s x (went y z same h) e f = absurd (cc)
alike_refused l r s x (refused c d) e f = absurd (cc)
alike_refused l r s x (past _ _ h) e f = past_not l r h e

pub refused_answer : (bytes : List ℕ) (l : ℕ) → certificate bytes ≡ Err (errors.BadLine l) → answer_after (start bytes) ≡ Err (errors.BadLine l)
unfolding certificate
refused_answer bytes l e = by (ltb most_answer_bytes (length bytes)) e
  where
    by : (t : Bool) → cond t (Err (errors.InputTooLong most_answer_bytes)) (answer_after (start bytes) >>= certified) ≡ Err (errors.BadLine l) → answer_after (start bytes) ≡ Err (errors.BadLine l)
    by true e = absurd (cc)
    by false e = elim (bind_err (answer_after (start bytes)) certified (errors.BadLine l) e) [
      | inl w ↦ w
      | inr s ↦ (let never = s.2 in absurd (cc))
    ]

-- no text with the same l first lines is a certificate
pub refuses_by_first_lines : (bytes other : List ℕ) (front after others : List (List ℕ)) → certificate bytes ≡ Err (errors.BadLine (length front)) →
    lines bytes ≡ front ++ after → lines other ≡ front ++ others → (c : CertificateData) → IsCertificateText other c → ⊥
refuses_by_first_lines bytes other front after others e same more c is =
    let l = length front in
    let agree : Agree l (rest 1 (lines bytes)) (rest 1 (lines other)) =
    subst (λ (ls : List (List ℕ)). Agree l (rest 1 (lines bytes)) (rest 1 ls)) (sym more)
    (subst (λ (ls : List (List ℕ)). Agree l (rest 1 ls) (rest 1 (front ++ others))) (sym same) (rest_agree l 1 front after others (omega arith))) in
    let read = answer_back other c is in
    alike_refused l (answer_after (start bytes)) (answer_after (start other)) read.0 ((local_answer l).alike (start bytes) (start other) agree) (refused_answer bytes l e) read.1
