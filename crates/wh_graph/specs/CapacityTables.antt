-- Tables of what is counted for each set of letters, by the number of the set.
use Rattle.std.specs.Prelude.{◌≡◌, ℕ, ◌<◌, ◌≤◌, List, length, get_or}
use Rattle.wh_words.specs.LetterSets.{in_set}
use Rattle.wh_words.specs.Flows.{sum_below, where_in, capacity_of_set}
use Rattle.wh_words.specs.Tuples.{TupleData}
use Rattle.wh_words.specs.Edges.{cap}
use Rattle.wh_flow.specs.Tables.{cell}

-- The list has a number for each set below n, which is that of the function.
pub record IsTable (f : ℕ → ℕ) (n : ℕ) (counts : List ℕ) : Type 0 where
  pub size : length counts ≡ n
  pub each : (set default : ℕ) → set < n → get_or counts set default ≡ f set

-- The front of a list has a number for each set below n, which is that of the function.
pub record HasTable (f : ℕ → ℕ) (n : ℕ) (counts : List ℕ) : Type 0 where
  pub room : n ≤ length counts
  pub each : (set default : ℕ) → set < n → get_or counts set default ≡ f set

-- How many edges join a letter to the letters of a set.
abbrev pub edges_into : List ℕ → ℕ → ℕ → ℕ
edges_into cells x set = sum_below 52 (λ y. where_in (in_set set y) (cell cells x y))

-- The capacity of a set in a network.
abbrev pub set_capacity : List ℕ → ℕ → ℕ
set_capacity cells set = capacity_of_set (cell cells) (in_set set)

-- The capacity of a set in a tuple.
abbrev pub tuple_capacity : TupleData → ℕ → ℕ
tuple_capacity t set = cap (in_set set) t
