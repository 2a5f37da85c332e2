-- Tables: a number for each two letters, row by row.
use Rattle.std.specs.Prelude.{◌≡◌, ℕ, ◌*◌, List, length, get_or, slice_set, replicate}
use Rattle.wh_words.specs.Flows.{place}

-- How many letters there are, at the greatest rank.
abbrev pub letter_count : ℕ
letter_count = 52

-- How many pairs of letters there are.
abbrev pub pair_count : ℕ
pair_count = letter_count * letter_count

-- The list is a table: it has a number for each pair.
abbrev pub IsTable : List ℕ → Type 0
IsTable table = length table ≡ pair_count

-- The number of a table at a pair.
abbrev pub cell : List ℕ → ℕ → ℕ → ℕ
cell table x y = get_or table (place x y) 0

-- The table of zeros.
abbrev pub zero_table : List ℕ
zero_table = replicate pair_count 0

-- A table with another number at one pair.
abbrev pub with_cell : List ℕ → ℕ → ℕ → ℕ → List ℕ
with_cell table x y n = slice_set table (place x y) n
