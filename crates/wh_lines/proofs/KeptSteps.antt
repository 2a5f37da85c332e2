-- The first line that isn't skipped, line after line: for the loop that looks for it.
use Rattle.std.proofs.Common.{◌≡◌, ℕ, ◌+◌, ◌<◌, List, [], ◌∷◌, length, take, drop, refl, sym, ap, ◌∙◌, None, Some, Result, Ok}
use Rattle.std.specs.declared.option.Option.{Option}
use Rattle.std.proofs.lemmas.List.{nil_from_length}
use Rattle.wh_lines.specs.declared.read_error.ReadError.{ReadError}
use Rattle.wh_lines.specs.Lines.{Field, lines, bad_at}
use Rattle.wh_lines.specs.Scans.{before, good_fields, checked_fields, first_of}
use Rattle.wh_lines.specs.Readings.{◌>>=◌, Refuses}
use Rattle.wh_lines.specs.KeptLines.{Kept, Rest, line_fields, kept_or, unless_bad, rest}
use Rattle.wh_lines.specs.KeptLines.Rest.{line}
use Rattle.wh_lines.proofs.LineCuts.{lines_front}

first_by : (l : ℕ) (bytes : List ℕ) (later : Rest) (o : Option ℕ) → first_of (unless_bad l o (kept_or l (line_fields bytes) later)) ≡ (good_fields l bytes o >>= λ fs. first_of (kept_or l fs later))
unfolding first_of
first_by l bytes later None = refl
first_by l bytes later (Some c) = refl

-- the line that begins here, and those after it
kept_step : (l : ℕ) (bytes : List ℕ) (n : ℕ) → 0 < length bytes → n ≡ before 10 bytes →
    first_of (rest l (lines bytes)) ≡ (checked_fields l (take n bytes) >>= λ fs. first_of (kept_or l fs (rest (l + 1) (lines (drop (n + 1) bytes)))))
unfolding rest checked_fields
kept_step l bytes n h e =
    ap (λ ls. first_of (rest l ls)) (lines_front bytes h ∙ sym (ap (λ k. take k bytes ∷ lines (drop (k + 1) bytes)) e))
    ∙ first_by l (take n bytes) (rest (l + 1) (lines (drop (n + 1) bytes))) (bad_at 1 (take n bytes))

-- a skipped line
pub kept_more : (l : ℕ) (bytes : List ℕ) (n : ℕ) (fs : List Field) (total : Result (Option Kept × Rest) ReadError) → 0 < length bytes → n ≡ before 10 bytes →
    checked_fields l (take n bytes) ≡ Ok fs → length fs ≡ 0 → first_of (rest l (lines bytes)) ≡ total → first_of (rest (l + 1) (lines (drop (n + 1) bytes))) ≡ total
kept_more l bytes n fs total h e read empty so_far =
    let later = rest (l + 1) (lines (drop (n + 1) bytes)) in
    sym (ap (λ gs. first_of (kept_or l gs later)) (nil_from_length fs empty))
    ∙ sym (ap (λ r. r >>= λ gs. first_of (kept_or l gs later)) read)
    ∙ sym (kept_step l bytes n h e) ∙ so_far

-- a line that is kept
pub kept_found : (l : ℕ) (bytes : List ℕ) (n : ℕ) (fs : List Field) (k : Kept) (total : Result (Option Kept × Rest) ReadError) → 0 < length bytes → n ≡ before 10 bytes →
    checked_fields l (take n bytes) ≡ Ok fs → ((later : Rest) → kept_or l fs later ≡ line k later) → first_of (rest l (lines bytes)) ≡ total → total ≡ Ok (Some k, rest (l + 1) (lines (drop (n + 1) bytes)))
unfolding first_of
kept_found l bytes n fs k total h e read is so_far =
    let later = rest (l + 1) (lines (drop (n + 1) bytes)) in
    sym so_far ∙ kept_step l bytes n h e
    ∙ ap (λ r. r >>= λ gs. first_of (kept_or l gs later)) read
    ∙ ap first_of (is later)

pub kept_fail : (l : ℕ) (bytes : List ℕ) (n : ℕ) (error : ReadError) (total : Result (Option Kept × Rest) ReadError) → 0 < length bytes → n ≡ before 10 bytes →
    Refuses (checked_fields l (take n bytes)) error → first_of (rest l (lines bytes)) ≡ total → Refuses total error
kept_fail l bytes n error total h e fails so_far = λ known.
    sym so_far ∙ kept_step l bytes n h e
    ∙ ap (λ r. r >>= λ gs. first_of (kept_or l gs (rest (l + 1) (lines (drop (n + 1) bytes))))) (fails known)

pub kept_end : (l : ℕ) (bytes : List ℕ) (total : Result (Option Kept × Rest) ReadError) → length bytes ≡ 0 → first_of (rest l (lines bytes)) ≡ total → total ≡ Ok (None, rest l (lines bytes))
unfolding first_of rest
kept_end l bytes total e so_far =
    let nil : bytes ≡ [] = nil_from_length bytes e in
    sym so_far ∙ ap (λ b. first_of (rest l (lines b))) nil ∙ ap (λ b. Ok (None, rest l (lines b))) (sym nil)
