-- How the fields of a `flow` line tell a letter, a value, and what flows between which letters.
use Rattle.std.specs.Prelude.{ℕ, ◌||◌, ◌+◌, ◌^◌, ◌==◌, leb, ltb, ◌&&◌, not, cond, List, [], ◌∷◌, Option, Some, None, codes, decimal, get_or, length, ◌*◌, ◌++◌, ◌-◌, ◌<◌, ◌≡◌, ◌≢◌, ◌≤◌}
use Rattle.std.specs.Option.{option_and_then}
use Rattle.wh_words.specs.Flows.{place, inflow, outflow}
use Rattle.wh_lines.specs.Rows.{Row}
use Rattle.wh_lines.specs.Lines.{Field}
use Rattle.wh_lines.specs.Numbers.{number}
use Rattle.wh_fields.specs.Repeated.{below}
use Rattle.wh_fields.specs.Words.{letter_of, letter_text}
use Rattle.wh_flow.specs.Tables.{cell, IsTable, zero_table, with_cell}

-- Two letters, and what flows from the first to the second.
pub record Pair : Type 0 where
  pub from : ℕ
  pub to : ℕ
  pub amount : ℕ

-- A pair has two different letters, and an amount of 1 or more that is below 2 ^ 32.
abbrev pub pair_with : ℕ → ℕ → ℕ → Option Pair
pair_with x y n = cond (not (x == y) && (ltb 0 n && ltb n (2 ^ 32))) (Some (record { from = x; to = y; amount = n })) None

-- The pair of rank n that the bytes of a field tell: two letters, `:` and a number.
unfoldable pub pair_in : ℕ → List ℕ → Option Pair
pair_in n [] = None
pair_in n (b ∷ []) = None
pair_in n (b ∷ d ∷ []) = None
pair_in n (b ∷ d ∷ e ∷ bs) =
    cond (e == 58)
    (option_and_then (λ x. option_and_then (λ y. option_and_then (λ k. pair_with x y k) (number bs)) (letter_of n d)) (letter_of n b))
    None

-- The pair that is told, where it isn't before a place in the order of pairs.
abbrev pub pair_from : ℕ → Option Pair → Option Pair
pair_from least None = None
pair_from least (Some p) = cond (leb least (place p.from p.to)) (Some p) None

-- A table with the pairs of some fields. They rise, and none is before the least place.
unfoldable pub table_from : ℕ → List ℕ → ℕ → List Field → Option (List ℕ)
table_from n table least [] = Some table
table_from n table least (f ∷ fs) =
    option_and_then (λ p. table_from n (with_cell table p.from p.to p.amount) (place p.from p.to + 1) fs) (pair_from least (pair_in n f.bytes))

-- What a `flow` line tells: a letter and a value, and the table of a flow.
pub record FlowData : Type 0 where
  pub head : ℕ × ℕ
  pub table : List ℕ

-- The letter of rank n that a field tells: it is one byte.
abbrev pub letter_in : ℕ → List ℕ → Option ℕ
letter_in n [] = None
letter_in n (b ∷ []) = letter_of n b
letter_in n (b ∷ d ∷ ds) = None

-- A number below 2 ^ 32.
abbrev pub small : Option ℕ → Option ℕ
small None = None
small (Some n) = cond (ltb n (2 ^ 32)) (Some n) None

-- What the fields after the keyword tell in rank n.
unfoldable pub flow_in : ℕ → List Field → Option FlowData
flow_in n [] = None
flow_in n (f ∷ []) = None
flow_in n (f ∷ g ∷ fs) =
    option_and_then (λ x. option_and_then (λ v. option_and_then (λ table. Some (record { head = (x, v); table = table })) (table_from n zero_table 0 fs)) (small (number g.bytes))) (letter_in n f.bytes)

-- ---- what is written
-- What flows from x to y, as a field. Where nothing flows, and for a letter and itself, there is none.
abbrev pub pair_item : List ℕ → ℕ → ℕ → List (List ℕ)
pair_item f x y = cond ((x == y) || (cell f x y == 0)) [] ((letter_text x ∷ letter_text y ∷ codes ":" ++ decimal (cell f x y)) ∷ [])

-- The pairs of letters of rank n, by the first letter and then by the second. Within the edges of a graph of this rank nothing else flows.
abbrev pub pair_fields : ℕ → List ℕ → List (List ℕ)
pair_fields n f = below (λ x. below (pair_item f x) (2 * n)) (2 * n)

-- The value of a flow from a letter: what flows out of it less what flows into it.
abbrev pub flow_value : List ℕ → ℕ → ℕ
flow_value f a = outflow (cell f) a - inflow (cell f) a

-- The row of a flow of rank n from the letter of a generator: the letter, the value, and the pairs.
abbrev pub flow_row : ℕ → ℕ → List ℕ → Row
flow_row n a f = record { keyword = codes "flow"; fields = (letter_text a ∷ []) ∷ decimal (flow_value f a) ∷ pair_fields n f }

-- The rows of flows of rank n, the first of them of generator g.
abbrev pub flow_rows : ℕ → ℕ → List (List ℕ) → List Row
flow_rows n g [] = []
flow_rows n g (f ∷ fs) = flow_row n (2 * g) f ∷ flow_rows n (g + 1) fs

-- The value of a flow from a letter is at least 0 and below 2 ^ 32.
pub record HasSmallValue (f : List ℕ) (a : ℕ) : Type 0 where
  pub least : inflow (cell f) a ≤ outflow (cell f) a
  pub below : outflow (cell f) a < inflow (cell f) a + 2 ^ 32

-- There is a flow for each generator of rank n, and its value from the generator's letter is a number of a line.
pub record HaveLines (n : ℕ) (fs : List (List ℕ)) : Type 0 where
  pub count : length fs ≡ n
  pub values : (g : ℕ) → g < n → HasSmallValue (get_or fs g []) (2 * g)

-- The table of a flow of generator g in rank n: numbers below 2 ^ 32, more than 0 between different letters of the rank alone, and with a value that a line can tell.
pub record IsFlowOf (n g : ℕ) (f : List ℕ) : Type 0 where
  pub table : IsTable f
  pub small : (x y : ℕ) → x < 52 → y < 52 → cell f x y < 2 ^ 32
  pub of_rank : (x y : ℕ) → x < 52 → y < 52 → 0 < cell f x y → (x < 2 * n) × (y < 2 * n) × (x ≢ y)
  pub value : HasSmallValue f (2 * g)

-- The letters and values that the `flow` lines of some flows name, the first of them of generator g.
abbrev pub heads_from : ℕ → List (List ℕ) → List (ℕ × ℕ)
heads_from g [] = []
heads_from g (f ∷ fs) = (2 * g, flow_value f (2 * g)) ∷ heads_from (g + 1) fs
