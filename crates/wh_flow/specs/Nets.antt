-- Networks on the letters of a rank, after Ford and Fulkerson.
use Rattle.std.specs.Prelude.{◌≡◌, ℕ, ◌*◌, ◌<◌, ◌≤◌, List}
use Rattle.wh_words.specs.Limits.{most_rank, most_letters}
use Rattle.wh_words.specs.Flows.{sum_below}
use Rattle.wh_flow.specs.Tables.{IsTable, cell}

-- A rank, and the number of edges between each two letters.
pub record Net : Type 0 where
  pub rank : ℕ
  pub cells : List ℕ

-- The number of edges of a network. Each pair of letters counts once.
abbrev pub edge_count : List ℕ → ℕ
edge_count cells = sum_below 52 (λ y. sum_below y (λ x. cell cells x y))

-- Edges join two different letters of the rank, either way round, and there are at most 4,096.
pub record IsNet (net : Net) : Type 0 where
  pub rank : net.rank ≤ most_rank
  pub table : IsTable net.cells
  pub symmetric : (x y : ℕ) → x < 52 → y < 52 → cell net.cells x y ≡ cell net.cells y x
  pub diagonal : (x : ℕ) → x < 52 → cell net.cells x x ≡ 0
  pub of_rank : (x y : ℕ) → x < 52 → y < 52 → 2 * net.rank ≤ x → cell net.cells x y ≡ 0
  pub few : edge_count net.cells ≤ most_letters
