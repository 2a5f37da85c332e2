-- Reading the lines of a text one after another, where each line that is taken gives its number.
use Rattle.std.specs.Prelude.{◌≡◌, ℕ, zero, suc, cond, List, [], ◌∷◌, ◌++◌, Result, Ok, Err}
use Rattle.wh_lines.specs.declared.read_error.ReadError.{ReadError}
use Rattle.wh_lines.specs.declared.read_error.ReadError.TheVariants as errors
use Rattle.wh_lines.specs.declared.reader.Next.{Next}
use Rattle.wh_lines.specs.declared.reader.Next.TheVariants as nexts
use Rattle.wh_lines.specs.Lines.{lines, are}
use Rattle.wh_lines.specs.Readings.{◌>>=◌, Refuses}
use Rattle.wh_lines.specs.KeptLines.{Kept, Rest, rest}
use Rattle.wh_lines.specs.KeptLines.Rest.{line, bad_byte, end}

-- Where reading is: the numbers of the lines that were taken so far, and what is left.
pub record Reading : Type 0 where
  pub taken : List ℕ
  pub rest : Rest

-- Nothing of a text is read yet.
abbrev pub start : List ℕ → Reading
start bytes = record { taken = []; rest = rest 1 (lines bytes) }

-- The next line, or the end, with the place past it.
abbrev pub next_of : List ℕ → Rest → Result (Next × Reading) ReadError
next_of taken (line k later) = Ok (nexts.Line k, record { taken = taken ++ k.number ∷ []; rest = later })
next_of taken (bad_byte l c) = Err (errors.BadByte l c)
next_of taken (end l) = Ok (nexts.End l, record { taken = taken; rest = end l })

unfoldable pub next : Reading → Result (Next × Reading) ReadError
next r = next_of r.taken r.rest

-- The next line. It has to be there, with this keyword.
abbrev pub line_of : List ℕ → List ℕ → Rest → Result (Kept × Reading) ReadError
line_of keyword taken (line k later) = cond (are k.keyword keyword) (Ok (k, record { taken = taken ++ k.number ∷ []; rest = later })) (Err (errors.BadLine k.number))
line_of keyword taken (bad_byte l c) = Err (errors.BadByte l c)
line_of keyword taken (end l) = Err (errors.BadLine l)

unfoldable pub line_after : List ℕ → Reading → Result (Kept × Reading) ReadError
line_after keyword r = line_of keyword r.taken r.rest

-- The end. No line may be left.
abbrev pub end_of : List ℕ → Rest → Result (Unit {0} × Reading) ReadError
end_of taken (line k later) = Err (errors.BadLine k.number)
end_of taken (bad_byte l c) = Err (errors.BadByte l c)
end_of taken (end l) = Ok (tt, record { taken = taken; rest = end l })

unfoldable pub end_after : Reading → Result (Unit {0} × Reading) ReadError
end_after r = end_of r.taken r.rest

-- So many readings, one after another.
unfoldable pub times : {A : Type 0} → (Reading → Result (A × Reading) ReadError) → ℕ → Reading → Result (List A × Reading) ReadError
times read zero r = Ok ([], r)
times read (suc k) r =
    read r >>= λ x.
    times read k x.1 >>= λ xs.
    Ok (x.0 ∷ xs.0, xs.1)

-- What was returned is what a reading gives, and reading goes on behind it. After a refusal nothing is told of where it is.
abbrev pub Reads : {X A : Type 0} → (X → A) → Result X ReadError → Reading → Result (A × Reading) ReadError → Type 0
Reads view (Ok x) after read = read ≡ Ok (view x, after)
Reads view (Err e) after read = Refuses read e
