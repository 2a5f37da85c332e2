-- Lines that are printed: a keyword, and fields with one space before each.
use Rattle.std.specs.Prelude.{ℕ, List, [], ◌∷◌, ◌++◌, codes, decimal}
use Rattle.std.specs.List.{flat_map}

-- A keyword, and the fields after it.
pub record Row : Type 0 where
  pub keyword : List ℕ
  pub fields : List (List ℕ)

-- Fields, each after a space.
abbrev pub fields_text : List (List ℕ) → List ℕ
fields_text fs = flat_map (λ f. 32 ∷ f) fs

-- The bytes of a row. A byte 10 ends its line.
abbrev pub row_bytes : Row → List ℕ
row_bytes r = r.keyword ++ fields_text r.fields

abbrev pub row_text : Row → List ℕ
row_text r = row_bytes r ++ codes "\n"

-- The text of some rows.
abbrev pub rows_text : List Row → List ℕ
rows_text rows = flat_map row_text rows

-- A row with a number.
abbrev pub number_row : List ℕ → ℕ → Row
number_row keyword n = record { keyword = keyword; fields = decimal n ∷ [] }
