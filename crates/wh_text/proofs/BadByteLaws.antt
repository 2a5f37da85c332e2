-- A refusal of a byte names the first line that has a bad one, and the leftmost in it: for the law on bad bytes.
use Rattle.std.proofs.Common.{◌≡◌, ℕ, ◌+◌, ◌==◌, ltb, Bool, true, false, cond, List, [], ◌∷◌, ◌++◌, length, sym, ap, ◌∙◌, subst, None, Some, inl, inr, Result, Ok, Err}
use Rattle.std.specs.Prelude.{leb, ◌&&◌, codes}
use Rattle.std.specs.declared.option.Option.{Option}
use Rattle.std.specs.List.{sum_by}
use Rattle.wh_words.specs.Tuples.{TupleData}
use Rattle.wh_words.specs.Moves.{Move}
use Rattle.wh_lines.specs.declared.read_error.ReadError.{ReadError}
use Rattle.wh_lines.specs.declared.read_error.ReadError.TheVariants as errors
use Rattle.wh_lines.specs.Lines.{Field, lines, are}
use Rattle.wh_lines.specs.Readings.{◌>>=◌, items_at, refused_as}
use Rattle.wh_lines.specs.Numbers.{number}
use Rattle.wh_lines.specs.KeptLines.{Kept, Rest}
use Rattle.wh_lines.specs.KeptLines.Rest.{line, bad_byte, end}
use Rattle.wh_lines.specs.LineReadings.{Reading, start, line_of, line_after}
use Rattle.wh_lines.proofs.Equations.{bind_ok, bind_err, ok_is, ok_same, refused_ok}
use Rattle.wh_lines.proofs.NextLines.{line_told}
use Rattle.wh_lines.proofs.BadBytes.{IsBadAt, first_bad}
use Rattle.wh_fields.specs.Words.{letter_of, letter_at, letters_at, word_at}
use Rattle.wh_fields.specs.TupleFields.{words_at, short_tuple, tuple_at}
use Rattle.wh_fields.specs.MoveFields.{kind_in, move_with, or_bad_move, move_at, moves_at}
use Rattle.wh_data.specs.declared.command.Command.{Command}
use Rattle.wh_data.specs.declared.command.Command.TheVariants as commands
use Rattle.wh_text.specs.RankLines.{greatest_rank, rank_at, rank_number, allowed_rank, no_rank, rank_after}
use Rattle.wh_data.specs.ProblemData.ProblemData.{decide, straighten}
use Rattle.wh_text.specs.Problems.{tuple_line, given_moves, nothing_left, last_moves, has_moves, Stated, with_tuple, stated, takes_moves, one_tuple, two_tuples, decide_both, problem_with, problem_after, problem}
use Rattle.wh_data.specs.Limits.{most_problem_bytes, most_given_moves}
use Rattle.wh_text.specs.Laws.{NamesTheFirstBadByte, IsFirstBadByte}

-- ---- what other readers refuse is no byte
abbrev pub IsOther : ReadError → Type 0
IsOther (errors.BadByte l c) = ⊥
IsOther e = Unit {0}

-- a refusal of this reading is no bad byte
abbrev pub RefusesOther : {A : Type 0} → Result A ReadError → Type 0
RefusesOther (Ok x) = Unit {0}
RefusesOther (Err e) = IsOther e

bind_other : {A B : Type 0} (r : Result A ReadError) (f : A → Result B ReadError) → RefusesOther r → ((x : A) → RefusesOther (f x)) → RefusesOther (r >>= f)
bind_other (Ok x) f h g = g x
bind_other (Err e) f h g = h

cond_other : {A : Type 0} (t : Bool) (r s : Result A ReadError) → RefusesOther r → RefusesOther s → RefusesOther (cond t r s)
cond_other true r s h g = h
cond_other false r s h g = g

letter_other : (l c : ℕ) (o : Option ℕ) → RefusesOther (letter_at l c o)
letter_other l c None = tt
letter_other l c (Some x) = tt

letters_other : (n l c : ℕ) (bs : List ℕ) → RefusesOther (letters_at n l c bs)
unfolding letters_at
letters_other n l c [] = tt
letters_other n l c (b ∷ bs) =
    bind_other (letter_at l c (letter_of n b)) (λ x. letters_at n l (c + 1) bs >>= λ xs. Ok (x ∷ xs)) (letter_other l c (letter_of n b))
    (λ x. bind_other (letters_at n l (c + 1) bs) (λ xs. Ok (x ∷ xs)) (letters_other n l (c + 1) bs) (λ xs. tt))

words_other : (n l : ℕ) (fs : List Field) → RefusesOther (words_at n l fs)
unfolding items_at
words_other n l [] = tt
words_other n l (f ∷ fs) =
    bind_other (word_at n l f) (λ w. words_at n l fs >>= λ ws. Ok (w ∷ ws))
    (cond_other (are f.bytes (codes "1")) (Ok []) (letters_at n l f.column f.bytes) tt (letters_other n l f.column f.bytes))
    (λ w. bind_other (words_at n l fs) (λ ws. Ok (w ∷ ws)) (words_other n l fs) (λ ws. tt))

tuple_other : (n l : ℕ) (fs : List Field) → RefusesOther (tuple_at n l fs)
unfolding tuple_at
tuple_other n l fs =
    cond_other (ltb 64 (length fs)) (Err (errors.TooManyWords l (length fs))) (words_at n l fs >>= λ ws. short_tuple n l ws) tt
    (bind_other (words_at n l fs) (λ ws. short_tuple n l ws) (words_other n l fs)
    (λ ws. cond_other (ltb 4096 (sum_by length ws)) (Err (errors.LongTuple l (sum_by length ws))) _ tt tt))

number_other : (command : Command) (l : ℕ) (o : Option ℕ) → RefusesOther (rank_number command l o)
number_other command l None = tt
number_other command l (Some n) =
    cond_other (leb 1 n && leb n 26) (allowed_rank command n) (Err (errors.RankRange l)) (cond_other (leb n (greatest_rank command)) (Ok n) (Err (errors.LevelRank n)) tt tt) tt

rank_other : (command : Command) (l : ℕ) (fs : List Field) → RefusesOther (rank_at command l fs)
rank_other command l [] = tt
rank_other command l (f ∷ []) = number_other command l (number f.bytes)
rank_other command l (f ∷ g ∷ fs) = tt

move_other : (l c : ℕ) (o : Option Move) → RefusesOther (or_bad_move l c o)
move_other l c None = tt
move_other l c (Some m) = tt

moves_other : (n l : ℕ) (fs : List Field) → RefusesOther (moves_at n l fs)
unfolding items_at
moves_other n l [] = tt
moves_other n l (f ∷ fs) =
    bind_other (move_at n l f) (λ m. moves_at n l fs >>= λ ms. Ok (m ∷ ms)) (move_other l f.column (move_with n (kind_in n f.bytes)))
    (λ m. bind_other (moves_at n l fs) (λ ms. Ok (m ∷ ms)) (moves_other n l fs) (λ ms. tt))

given_other : (n : ℕ) (k : Kept) → RefusesOther (given_moves n k)
given_other n k =
    cond_other (ltb most_given_moves (length k.fields)) (Err (errors.TooManyMoves k.number (length k.fields))) (moves_at n k.number k.fields) tt (moves_other n k.number k.fields)

line_other : (n : ℕ) (k : Kept) → RefusesOther (tuple_line n k)
line_other n k = cond_other (are k.keyword (codes "tuple")) (tuple_at n k.number k.fields) (Err (errors.BadLine k.number)) (tuple_other n k.number k.fields) tt

one_other : (ts : List TupleData) → RefusesOther (one_tuple ts)
one_other [] = tt
one_other (t ∷ []) = tt
one_other (t ∷ u ∷ ts) = tt

two_other : (ts : List TupleData) → RefusesOther (two_tuples ts)
two_other [] = tt
two_other (t ∷ []) = tt
two_other (t ∷ u ∷ []) = tt
two_other (t ∷ u ∷ v ∷ ts) = tt

both_other : (s t : TupleData) → RefusesOther (decide_both s t)
both_other s t = cond_other (length s.words == length t.words) (Ok (decide s t)) (Err (errors.SizeMismatch (length s.words) (length t.words))) tt tt

with_other : (command : Command) (s : Stated) → RefusesOther s.moves → RefusesOther (problem_with command s)
with_other commands.Reduce s h = bind_other (one_tuple s.tuples) _ (one_other s.tuples) (λ t. tt)
with_other commands.Decide s h = bind_other (two_tuples s.tuples) _ (two_other s.tuples) (λ p. both_other p.0 p.1)
with_other commands.Stabiliser s h = bind_other (one_tuple s.tuples) _ (one_other s.tuples) (λ t. tt)
with_other commands.Straighten s h = bind_other (one_tuple s.tuples) _ (one_other s.tuples) (λ t. bind_other s.moves (λ ms. Ok (straighten t ms)) h (λ ms. tt))

-- the refusal of a text without moves is no bad byte
stated_other : (takes : Bool) (n : ℕ) (r : Rest) (s : Stated) → stated takes n r ≡ Ok s → RefusesOther s.moves
unfolding stated
stated_other takes n (line k later) s e = by (has_moves takes k) (λ x h. stated_other takes n later x h) e
  where
    by : (t : Bool) → ((x : Stated) → stated takes n later ≡ Ok x → RefusesOther x.moves) → cond t (last_moves n k later >>= λ ms. Ok (record { tuples = []; moves = Ok ms })) (tuple_line n k >>= λ t. stated takes n later >>= λ s. Ok (with_tuple t s)) ≡ Ok s → RefusesOther s.moves
    by true rest e =
        let p = bind_ok (last_moves n k later) (λ ms. Ok (record { tuples = []; moves = Ok ms })) s e in
        ok_same (λ (x : Stated). RefusesOther x.moves) (record { tuples = []; moves = Ok p.0 }) s p.2 tt
    by false rest e =
        let p = bind_ok (tuple_line n k) (λ t. stated takes n later >>= λ s. Ok (with_tuple t s)) s e in
        let q = bind_ok (stated takes n later) (λ s. Ok (with_tuple p.0 s)) s p.2 in
        ok_same (λ (x : Stated). RefusesOther x.moves) (with_tuple p.0 q.0) s q.2 (rest q.0 q.1)
stated_other takes n (bad_byte l c) s e = absurd (cc)
stated_other takes n (end l) s e = ok_same (λ (x : Stated). RefusesOther x.moves) (record { tuples = []; moves = Err (errors.BadLine l) }) s e tt

not_other : {A : Type 0} (r : Result A ReadError) (l c : ℕ) → RefusesOther r → r ≡ Err (errors.BadByte l c) → ⊥
not_other r l c h e = subst RefusesOther e h

-- ---- what is left has the bad byte
nothing_bad : (r : Rest) (l c : ℕ) → nothing_left r ≡ Err (errors.BadByte l c) → IsBadAt l c r
nothing_bad (line k later) l c e = absurd (cc)
nothing_bad (bad_byte m d) l c e = ((cc), (cc))
nothing_bad (end m) l c e = absurd (cc)

last_bad : (n : ℕ) (k : Kept) (later : Rest) (l c : ℕ) → last_moves n k later ≡ Err (errors.BadByte l c) → IsBadAt l c later
last_bad n k later l c e =
    elim (bind_err (given_moves n k) (λ ms. nothing_left later >>= λ none. Ok ms) (errors.BadByte l c) e) [
      | inl here ↦ absurd (not_other (given_moves n k) l c (given_other n k) here)
      | inr there ↦ elim (bind_err (nothing_left later) (λ none. Ok there.0) (errors.BadByte l c) there.2) [
        | inl bad ↦ nothing_bad later l c bad
        | inr never ↦ (let no = never.2 in absurd (cc))
      ]
    ]

stated_bad : (takes : Bool) (n : ℕ) (r : Rest) (l c : ℕ) → stated takes n r ≡ Err (errors.BadByte l c) → IsBadAt l c r
unfolding stated
stated_bad takes n (line k later) l c e = by (has_moves takes k) (λ h. stated_bad takes n later l c h) e
  where
    by : (t : Bool) → (stated takes n later ≡ Err (errors.BadByte l c) → IsBadAt l c later) → cond t (last_moves n k later >>= λ ms. Ok (record { tuples = []; moves = Ok ms })) (tuple_line n k >>= λ t. stated takes n later >>= λ s. Ok (with_tuple t s)) ≡ Err (errors.BadByte l c) → IsBadAt l c later
    by true rest e = elim (bind_err (last_moves n k later) (λ ms. Ok (record { tuples = []; moves = Ok ms })) (errors.BadByte l c) e) [
      | inl bad ↦ last_bad n k later l c bad
      | inr never ↦ (let no = never.2 in absurd (cc))
    ]
    by false rest e = elim (bind_err (tuple_line n k) (λ t. stated takes n later >>= λ s. Ok (with_tuple t s)) (errors.BadByte l c) e) [
      | inl here ↦ absurd (not_other (tuple_line n k) l c (line_other n k) here)
      | inr there ↦ elim (bind_err (stated takes n later) (λ s. Ok (with_tuple there.0 s)) (errors.BadByte l c) there.2) [
        | inl later_bad ↦ rest later_bad
        | inr never ↦ (let no = never.2 in absurd (cc))
      ]
    ]
stated_bad takes n (bad_byte m d) l c e = ((cc), (cc))
stated_bad takes n (end m) l c e = absurd (cc)

no_rank_bad : {A : Type 0} (r : Result A ReadError) (l c : ℕ) → refused_as no_rank r ≡ Err (errors.BadByte l c) → r ≡ Err (errors.BadByte l c)
no_rank_bad (Ok x) l c e = absurd (cc)
no_rank_bad (Err (errors.InputTooLong limit)) l c e = e
no_rank_bad (Err (errors.BadByte m d)) l c e = e
no_rank_bad (Err (errors.NoRank m)) l c e = e
no_rank_bad (Err (errors.RankRange m)) l c e = e
no_rank_bad (Err (errors.LevelRank m)) l c e = e
no_rank_bad (Err (errors.BadLine m)) l c e = absurd (cc)
no_rank_bad (Err (errors.TooManyWords m count)) l c e = e
no_rank_bad (Err (errors.BadLetter m d)) l c e = e
no_rank_bad (Err (errors.LongTuple m length)) l c e = e
no_rank_bad (Err (errors.TooManyMoves m count)) l c e = e
no_rank_bad (Err (errors.BadMove m d)) l c e = e
no_rank_bad (Err (errors.TupleCount expected found)) l c e = e
no_rank_bad (Err (errors.SizeMismatch first second)) l c e = e
no_rank_bad (Err (errors.NoCertificate m)) l c e = e
no_rank_bad (Err errors.OutOfMemory) l c e = e

line_bad : (keyword taken : List ℕ) (r : Rest) (l c : ℕ) → line_of keyword taken r ≡ Err (errors.BadByte l c) → IsBadAt l c r
line_bad keyword taken (line k later) l c e = absurd (not_other (line_of keyword taken (line k later)) l c (cond_other (are k.keyword keyword) (Ok (k, record { taken = taken ++ k.number ∷ []; rest = later })) (Err (errors.BadLine k.number)) tt tt) e)
line_bad keyword taken (bad_byte m d) l c e = ((cc), (cc))
line_bad keyword taken (end m) l c e = absurd (cc)

rank_bad : (command : Command) (p : Reading) (l c : ℕ) → rank_after command p ≡ Err (errors.BadByte l c) → IsBadAt l c p.rest
unfolding rank_after line_after
rank_bad command p l c e =
    let next : Kept × Reading → Result (ℕ × Reading) ReadError = λ k. rank_at command k.0.number k.0.fields >>= λ n. Ok (n, k.1) in
    elim (bind_err (refused_as no_rank (line_after (codes "rank") p)) next (errors.BadByte l c) e) [
      | inl here ↦ line_bad (codes "rank") p.taken p.rest l c (no_rank_bad (line_after (codes "rank") p) l c here)
      | inr there ↦ absurd (not_other (next there.0) l c (bind_other (rank_at command there.0.0.number there.0.0.fields) (λ n. Ok (n, there.0.1)) (rank_other command there.0.0.number there.0.0.fields) (λ n. tt)) there.2)
    ]

-- where the rank is read, the bad byte is behind its line
behind_bad : (command : Command) (p : Reading) (n : ℕ × Reading) (l c : ℕ) → rank_after command p ≡ Ok n → IsBadAt l c n.1.rest → IsBadAt l c p.rest
unfolding rank_after
behind_bad command p n l c e h =
    let next : Kept × Reading → Result (ℕ × Reading) ReadError = λ k. rank_at command k.0.number k.0.fields >>= λ n. Ok (n, k.1) in
    let a = bind_ok (refused_as no_rank (line_after (codes "rank") p)) next n e in
    let told = line_told (codes "rank") p a.0 (refused_ok no_rank (line_after (codes "rank") p) a.0 a.1) in
    let b = bind_ok (rank_at command a.0.0.number a.0.0.fields) (λ n. Ok (n, a.0.1)) n a.2 in
    subst (λ (r : Rest). IsBadAt l c r) (sym (told.0 ∙ ap (λ (x : ℕ × Reading). line a.0.0 x.1.rest) (ok_is (b.0, a.0.1) n b.2))) h

lines_bad : (command : Command) (p : Reading) (l c : ℕ) → problem_after command p ≡ Err (errors.BadByte l c) → IsBadAt l c p.rest
unfolding problem_after
lines_bad command p l c e =
    let takes = takes_moves command in
    elim (bind_err (rank_after command p) (λ n. stated takes n.0 n.1.rest >>= λ s. problem_with command s) (errors.BadByte l c) e) [
      | inl here ↦ rank_bad command p l c here
      | inr there ↦ elim (bind_err (stated takes there.0.0 there.0.1.rest) (λ s. problem_with command s) (errors.BadByte l c) there.2) [
        | inl bad ↦ behind_bad command p there.0 l c there.1 (stated_bad takes there.0.0 there.0.1.rest l c bad)
        | inr never ↦ absurd (not_other (problem_with command never.0) l c (with_other command never.0 (stated_other takes there.0.0 there.0.1.rest never.0 never.1)) never.2)
      ]
    ]

pub first_bad_byte : NamesTheFirstBadByte
unfolding problem
first_bad_byte command bytes l column e = by (ltb most_problem_bytes (length bytes)) e
  where
    by : (t : Bool) → cond t (Err (errors.InputTooLong most_problem_bytes)) (problem_after command (start bytes)) ≡ Err (errors.BadByte l column) → IsFirstBadByte bytes l column
    by true e = absurd (cc)
    by false e =
        let r = first_bad 1 l column (lines bytes) (lines_bad command (start bytes) l column e) in
        record {
          lines_before = r.lines_before;
          prefix = r.leftmost.prefix;
          bad = r.leftmost.bad;
          suffix = r.leftmost.suffix;
          lines_after = r.lines_after;
          parts = r.parts ∙ ap (λ v. r.lines_before ++ v ∷ r.lines_after) r.leftmost.parts;
          line = r.place;
          place = r.leftmost.place;
          clean_before = r.clean;
          clean_prefix = r.leftmost.clean;
          is_bad = r.leftmost.is_bad;
        }
