-- What the first line behind the tuple of a stabiliser is read as: for the reader of it.
use Rattle.std.proofs.Common.{◌≡◌, ℕ, Bool, true, false, cond, List, refl, sym, ap, ◌∙◌, subst, ◌^◌, ◌<◌, ◌==◌, eqb-true, None, Some, Result, Ok, Err}
use Rattle.std.specs.Prelude.{◌&&◌, codes, decimal}
use Rattle.std.specs.declared.option.Option.{Option}
use Rattle.wh_words.specs.Moves.{Move}
use Rattle.wh_lines.specs.declared.read_error.ReadError.{ReadError}
use Rattle.wh_lines.specs.declared.read_error.ReadError.TheVariants as errors
use Rattle.wh_lines.specs.declared.reader.Next.TheVariants as nexts
use Rattle.wh_lines.specs.Lines.{are}
use Rattle.wh_lines.specs.Readings.{◌>>=◌, refused_as, Refuses, Gives}
use Rattle.wh_lines.specs.KeptLines.{Kept, Rest}
use Rattle.wh_lines.specs.KeptLines.Rest.{line, bad_byte, end}
use Rattle.wh_lines.specs.LineReadings.{Reading, Reads, next}
use Rattle.wh_fields.specs.MoveFields.{moves_at}
use Rattle.wh_text.specs.Certificates.{in_answer, moves_after, is_undecided_in, unless_undecided, stab_trace_after}
use Rattle.wh_lines.specs.Numbers.{number}
use Rattle.wh_lines.proofs.Scanning.{eq_true}
use Rattle.wh_lines.proofs.NumberLaws.{reads_numbers}
use Rattle.wh_lines.proofs.Equations.{ok_is, unless_ok, are_is, are_back}
use Rattle.wh_lines.proofs.NextLines.{next_is_line, next_is_end, next_is_bad, line_found, line_fails, line_missing}

-- what the line tells, whatever its first field is
abbrev moves_of : ℕ → Kept → Result (List Move) ReadError
moves_of n k = refused_as in_answer (moves_at n k.number k.fields)

abbrev is_undecided : Kept → Bool
is_undecided k = are k.keyword (codes "verdict") && is_undecided_in k.fields

abbrev first_of : ℕ → Kept → Result (List Move) ReadError
first_of n k = cond (is_undecided k) (Err (errors.NoCertificate k.number)) (cond (are k.keyword (codes "trace")) (moves_of n k) (Err (errors.BadLine k.number)))

-- the moves of a line that was read, and what is left behind it
abbrev then_moves : ℕ → Result (Kept × Reading) ReadError → Result (List Move × Reading) ReadError
then_moves n r = r >>= λ k. refused_as in_answer (moves_at n k.0.number k.0.fields) >>= λ ms. Ok (ms, k.1)

-- what was read of line k, behind which q is left
abbrev line_read : Bool → Kept → Reading → Result (Kept × Reading) ReadError
line_read trace k q = cond trace (Ok (k, q)) (Err (errors.BadLine k.number))

-- ---- no line
pub trace_fails : (n : ℕ) (p : Reading) (e : ReadError) → Refuses (next p) e → Refuses (stab_trace_after n p) e
unfolding stab_trace_after moves_after
trace_fails n p e h = λ known.
    let bad = next_is_bad p e (h known) in
    ap (λ r. unless_undecided r (moves_after (codes "trace") n p)) bad.2
    ∙ ap (then_moves n) (line_fails (codes "trace") p e h known)

pub trace_missing : (n : ℕ) (p : Reading) (l : ℕ) (q : Reading) → next p ≡ Ok (nexts.End l, q) → stab_trace_after n p ≡ Err (errors.BadLine l)
unfolding stab_trace_after moves_after
trace_missing n p l q h =
    ap (λ r. unless_undecided r (moves_after (codes "trace") n p)) (next_is_end p l q h).0
    ∙ ap (then_moves n) (line_missing (codes "trace") p l q h)

-- ---- a line
pub trace_found : (n : ℕ) (p : Reading) (k : Kept) (q : Reading) → next p ≡ Ok (nexts.Line k, q) →
    stab_trace_after n p ≡ cond (is_undecided k) (Err (errors.NoCertificate k.number))
    (then_moves n (line_read (are k.keyword (codes "trace")) k q))
unfolding stab_trace_after moves_after
trace_found n p k q h =
    ap (λ r. unless_undecided r (moves_after (codes "trace") n p)) (next_is_line p k q h).0
    ∙ ap (λ r. cond (is_undecided k) (Err (errors.NoCertificate k.number)) (then_moves n r)) (line_found (codes "trace") p k q h)

moves_by : (q : Reading) (told r : Result (List Move) ReadError) → Gives (λ ms. ms) r told → Reads (λ ms. ms) r q (told >>= λ ms. Ok (ms, q))
moves_by q (Ok xs) (Ok ms) g = ap (λ (v : List Move). Ok (v, q)) (ok_is xs ms g)
moves_by q (Ok xs) (Err e) g = λ known. let never = g known in absurd (cc)
moves_by q (Err d) (Ok ms) g = absurd (cc)
moves_by q (Err d) (Err e) g = λ known. let same = g known in (cc)

by_line : (undecided trace : Bool) (k : Kept) (q : Reading) (n : ℕ) (r : Result (List Move) ReadError) →
    Gives (λ ms. ms) r (cond undecided (Err (errors.NoCertificate k.number)) (cond trace (moves_of n k) (Err (errors.BadLine k.number)))) →
    Reads (λ ms. ms) r q (cond undecided (Err (errors.NoCertificate k.number)) (then_moves n (line_read trace k q)))
by_line true trace k q n r g = moves_by q (Err (errors.NoCertificate k.number)) r g
by_line false true k q n r g = moves_by q (moves_of n k) r g
by_line false false k q n r g = moves_by q (Err (errors.BadLine k.number)) r g

pub trace_reads : (n : ℕ) (p : Reading) (k : Kept) (q : Reading) (r : Result (List Move) ReadError) → next p ≡ Ok (nexts.Line k, q) → Gives (λ ms. ms) r (first_of n k) → Reads (λ ms. ms) r q (stab_trace_after n p)
trace_reads n p k q r h g = subst (Reads (λ ms. ms) r q) (sym (trace_found n p k q h)) (by_line (is_undecided k) (are k.keyword (codes "trace")) k q n r g)

-- ---- what was read
told_by_rest : {A : Type 0} (r : Rest) (read : Result A ReadError) (x : A) → unless_undecided r read ≡ Ok x → read ≡ Ok x
told_by_rest (line k later) read x e = (unless_ok (is_undecided k) (errors.NoCertificate k.number) read x e).1
told_by_rest (bad_byte l c) read x e = e
told_by_rest (end l) read x e = e

pub trace_told : (n : ℕ) (p : Reading) (r : List Move × Reading) → stab_trace_after n p ≡ Ok r → moves_after (codes "trace") n p ≡ Ok r
unfolding stab_trace_after
trace_told n p r e = told_by_rest p.rest (moves_after (codes "trace") n p) r e

-- ---- a number of a field
number_by : (bytes : List ℕ) (n k : ℕ) (same told : Bool) → number bytes ≡ Some n → k < 2 ^ 64 → (n == k) ≡ same → are bytes (decimal k) ≡ told → same ≡ told
number_by bytes n k true true e h s t = refl
number_by bytes n k false false e h s t = refl
number_by bytes n k true false e h s t =
    let is : n ≡ k = eqb-true n k s in
    sym (are_back bytes (decimal k) ((reads_numbers bytes k).0 (e ∙ ap (λ m. Some m) is)).0) ∙ t
number_by bytes n k false true e h s t =
    let is : ◌≡◌ {A = Option ℕ} (Some n) (Some k) = sym e ∙ (reads_numbers bytes k).1 (are_is bytes (decimal k) t, h) in
    sym s ∙ eq_true n k (cc)

pub number_told : (bytes : List ℕ) (n k : ℕ) → number bytes ≡ Some n → k < 2 ^ 64 → (n == k) ≡ are bytes (decimal k)
number_told bytes n k e h = number_by bytes n k (n == k) (are bytes (decimal k)) e h refl refl

missing_by : (bytes : List ℕ) (k : ℕ) (t : Bool) → number bytes ≡ None → k < 2 ^ 64 → are bytes (decimal k) ≡ t → false ≡ t
missing_by bytes k true e h a =
    let same : ◌≡◌ {A = Option ℕ} None (Some k) = sym e ∙ (reads_numbers bytes k).1 (are_is bytes (decimal k) a, h) in
    absurd (cc)
missing_by bytes k false e h a = refl

pub number_missing : (bytes : List ℕ) (k : ℕ) → number bytes ≡ None → k < 2 ^ 64 → false ≡ are bytes (decimal k)
number_missing bytes k e h = missing_by bytes k (are bytes (decimal k)) e h refl
