-- How the code goes through the bytes of a line, and through the lines of a text.
use Rattle.std.specs.Prelude.{ℕ, suc, ◌==◌, cond, List, [], ◌∷◌, length, Option, Some, None, Result, Ok, Err}
use Rattle.wh_lines.specs.declared.read_error.ReadError.{ReadError}
use Rattle.wh_lines.specs.declared.read_error.ReadError.TheVariants as errors
use Rattle.wh_lines.specs.Lines.{Field, bad_at}
use Rattle.wh_lines.specs.KeptLines.{Kept, Rest, line_fields}
use Rattle.wh_lines.specs.KeptLines.Rest.{line, bad_byte, end}

-- How many bytes stand before the first byte x, or in all where none is.
abbrev pub before : ℕ → List ℕ → ℕ
before x [] = 0
before x (b ∷ bs) = cond (b == x) 0 (suc (before x bs))

-- How many bytes a field has.
abbrev pub bytes_within : Field → ℕ
bytes_within f = length f.bytes

-- The fields of line number l, unless there is a bad byte in this column.
abbrev pub good_fields : ℕ → List ℕ → Option ℕ → Result (List Field) ReadError
good_fields l bytes (Some c) = Err (errors.BadByte l c)
good_fields l bytes None = Ok (line_fields bytes)

unfoldable pub checked_fields : ℕ → List ℕ → Result (List Field) ReadError
checked_fields l bytes = good_fields l bytes (bad_at 1 bytes)

-- The first line of what is left, if any, and what is left then.
unfoldable pub first_of : Rest → Result (Option Kept × Rest) ReadError
first_of (line k later) = Ok (Some k, later)
first_of (bad_byte l c) = Err (errors.BadByte l c)
first_of (end l) = Ok (None, end l)
