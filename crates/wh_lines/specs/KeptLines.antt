-- The lines of a text that aren't skipped, one after another.
use Rattle.std.specs.Prelude.{ℕ, ◌+◌, cond, List, [], ◌∷◌, Option, Some, None}
use Rattle.wh_lines.specs.Lines.{Field, bad_at, is_comment, fields}

-- A line that isn't skipped: its number, its first field, and the fields after that.
pub record Kept : Type 0 where
  pub number : ℕ
  pub keyword : List ℕ
  pub fields : List Field

-- What is left of a text: its lines that aren't skipped, up to the first byte that may not stand in a line, of which the line and the column are told, or up to the place past the end.
pub data Rest : Type 0 where
  line : Kept → Rest → Rest
  bad_byte : ℕ → ℕ → Rest
  end : ℕ → Rest

-- The fields of a line. One that begins with `#` has none.
abbrev pub line_fields : List ℕ → List Field
line_fields bytes = cond (is_comment bytes) [] (fields 1 bytes)

-- Line number l with these fields, and what follows it. A line without fields is skipped.
abbrev pub kept_or : ℕ → List Field → Rest → Rest
kept_or l [] later = later
kept_or l (f ∷ fs) later = line (record { number = l; keyword = f.bytes; fields = fs }) later

-- A rest, unless there is a bad byte in this column of line l.
abbrev pub unless_bad : ℕ → Option ℕ → Rest → Rest
unless_bad l None rest = rest
unless_bad l (Some c) rest = bad_byte l c

-- What is left where these lines are left, the first of which has number l. Skipped lines too are searched for bad bytes.
unfoldable pub rest : ℕ → List (List ℕ) → Rest
rest l [] = end l
rest l (bytes ∷ ls) = unless_bad l (bad_at 1 bytes) (kept_or l (line_fields bytes) (rest (l + 1) ls))
