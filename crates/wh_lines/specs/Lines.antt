-- Lines of a text, and fields of a line. Bytes are numbers; lines, and columns in a line, are counted from 1.
use Rattle.std.specs.Prelude.{ℕ, ◌+◌, ◌==◌, leb, ◌&&◌, Bool, false, cond, List, [], ◌∷◌, Option, Some, None}
use lib.Pointwise.{pointwise}

-- A byte at the front of the first line.
abbrev pub onto : ℕ → List (List ℕ) → List (List ℕ)
onto b [] = (b ∷ []) ∷ []
onto b (line ∷ lines) = (b ∷ line) ∷ lines

-- The lines of a text. Each ends at a byte 10; what follows the last such byte is a line where it isn't empty.
abbrev pub lines : List ℕ → List (List ℕ)
lines [] = []
lines (b ∷ bs) = cond (b == 10) ([] ∷ lines bs) (onto b (lines bs))

-- Whether a byte may stand in a line: 32 to 126.
abbrev pub is_allowed : ℕ → Bool
is_allowed b = leb 32 b && leb b 126

-- The column of the leftmost byte that may not stand in a line, where the first byte has column c.
abbrev pub bad_at : ℕ → List ℕ → Option ℕ
bad_at c [] = None
bad_at c (b ∷ bs) = cond (is_allowed b) (bad_at (c + 1) bs) (Some c)

-- Whether a line begins with `#`.
abbrev pub is_comment : List ℕ → Bool
is_comment [] = false
is_comment (b ∷ bs) = b == 35

-- A field of a line, and the column of its first byte.
pub record Field : Type 0 where
  pub column : ℕ
  pub bytes : List ℕ

-- A byte in column c before some fields: at the front of the first one where that begins in the next column, and else a field by itself.
abbrev pub joined : ℕ → ℕ → List Field → List Field
joined c b [] = record { column = c; bytes = b ∷ [] } ∷ []
joined c b (f ∷ fs) = cond (f.column == c + 1) (record { column = c; bytes = b ∷ f.bytes } ∷ fs) (record { column = c; bytes = b ∷ [] } ∷ f ∷ fs)

-- The fields of a line whose first byte has column c: the longest runs of bytes other than space.
abbrev pub fields : ℕ → List ℕ → List Field
fields c [] = []
fields c (b ∷ bs) = cond (b == 32) (fields (c + 1) bs) (joined c b (fields (c + 1) bs))

-- Whether bytes are those of a text.
abbrev pub are : List ℕ → List ℕ → Bool
are bytes text = pointwise ◌==◌ bytes text
