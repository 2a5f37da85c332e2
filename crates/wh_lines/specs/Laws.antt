-- The laws of reading, in the words of what is written: what is read is spelled so, and what is spelled so is read.
use Rattle.std.specs.Prelude.{◌≡◌, ◌≢◌, ◌==◌, ◌||◌, Bool, ℕ, zero, suc, ◌+◌, ◌^◌, ◌<◌, ◌↔◌, true, cond, List, [], ◌∷◌, ◌++◌, map, Some, decimal}
use Rattle.std.specs.List.{All, list_all}
use Rattle.wh_lines.specs.Lines.{lines, fields, is_allowed, is_comment}
use Rattle.wh_lines.specs.Numbers.{number}
use Rattle.wh_lines.specs.Rows.{Row}

-- ---- fields
-- A number is read exactly from its decimal digits.
abbrev pub ReadsNumbers : Type 0
ReadsNumbers = (bs : List ℕ) (n : ℕ) → (number bs ≡ Some n) ↔ ((bs ≡ decimal n) × (n < 2 ^ 64))

-- ---- lines
-- No byte of a line ends it.
abbrev pub IsLine : List ℕ → Type 0
IsLine line = All (λ b. b ≢ 10) line

-- Some lines, each with a byte 10 at its end.
abbrev pub ended : List (List ℕ) → List ℕ
ended [] = []
ended (line ∷ ls) = line ++ (10 ∷ ended ls)

-- The lines of a text are those that were written. The last one need not be ended where it isn't empty.
pub record ReadsLines : Type 0 where
  pub whole : (ls : List (List ℕ)) → All IsLine ls → lines (ended ls) ≡ ls
  pub open_end : (ls : List (List ℕ)) (b : ℕ) (last : List ℕ) → All IsLine ls → IsLine (b ∷ last) → lines (ended ls ++ (b ∷ last)) ≡ ls ++ ((b ∷ last) ∷ [])

-- A field has one byte or more, and none of them is a space.
pub record IsField (f : List ℕ) : Type 0 where
  pub some : f ≢ []
  pub solid : All (λ b. b ≢ 32) f

-- The line has these fields, with spaces between them, and perhaps more spaces before, between and after them.
pub data HasFields : List (List ℕ) → List ℕ → Type 0 where
  none : HasFields [] []
  space : {fs : List (List ℕ)} {line : List ℕ} → HasFields fs line → HasFields fs (32 ∷ line)
  last : (f : List ℕ) → IsField f → HasFields (f ∷ []) f
  field : (f : List ℕ) {fs : List (List ℕ)} {line : List ℕ} → IsField f → HasFields fs line → HasFields (f ∷ fs) (f ++ 32 ∷ line)

-- The fields of a line, without their columns.
abbrev pub field_texts : List ℕ → List (List ℕ)
field_texts line = map (λ f. f.bytes) (fields 1 line)

-- The fields of a line are those that it has.
abbrev pub ReadsFields : Type 0
ReadsFields = (fs : List (List ℕ)) (line : List ℕ) → (field_texts line ≡ fs) ↔ HasFields fs line

-- ---- texts
-- Whether a line is skipped: it begins with `#`, or has no bytes but spaces.
abbrev pub is_skipped : List ℕ → Bool
is_skipped line = is_comment line || list_all (λ b. b == 32) line

-- The lines that aren't skipped.
abbrev pub kept_lines : List (List ℕ) → List (List ℕ)
kept_lines [] = []
kept_lines (line ∷ ls) = cond (is_skipped line) (kept_lines ls) (line ∷ kept_lines ls)

-- All bytes of a line may stand there.
abbrev pub IsClean : List ℕ → Type 0
IsClean line = All (λ b. is_allowed b ≡ true) line

-- So many numbers from l on.
abbrev pub numbers_from : ℕ → ℕ → List ℕ
numbers_from l zero = []
numbers_from l (suc k) = l ∷ numbers_from (l + 1) k

-- The numbers of the lines that aren't skipped, where the first line has number l.
abbrev pub kept_numbers : ℕ → List (List ℕ) → List ℕ
kept_numbers l [] = []
kept_numbers l (line ∷ ls) = cond (is_skipped line) (kept_numbers (l + 1) ls) (l ∷ kept_numbers (l + 1) ls)

-- The keyword and the fields of a row.
abbrev pub texts_of : Row → List (List ℕ)
texts_of r = r.keyword ∷ r.fields

-- A row for each item, which tells it.
abbrev pub EachRow : {A : Type 0} → (Row → A → Type 0) → List Row → List A → Type 0
EachRow tells [] [] = Unit {0}
EachRow tells [] (x ∷ xs) = ⊥
EachRow tells (r ∷ rows) [] = ⊥
EachRow tells (r ∷ rows) (x ∷ xs) = tells r x × EachRow tells rows xs
