-- Residual networks: what may still flow over capacities and a flow, at the pairs from a place on.
use Rattle.std.specs.Prelude.{◌≡◌, ◌≢◌, ℕ, ◌<◌, ◌≤◌, List}
use Rattle.wh_words.specs.Limits.{most_letters}
use Rattle.wh_words.specs.Flows.{IsWithin, place}
use Rattle.wh_flow.specs.Tables.{IsTable, cell}
use Rattle.wh_flow.specs.Masks.{AreMasksOf}
use Rattle.wh_flow.specs.Searches.{residual}

-- Capacities, a flow, and the place from which on pairs have residual edges.
pub record ResidualNet : Type 0 where
  pub cap : List ℕ
  pub flow : List ℕ
  pub from : ℕ

-- No number is above the most edges that a network has.
abbrev pub IsLow : List ℕ → Type 0
IsLow cap = (x y : ℕ) → x < 52 → y < 52 → cell cap x y ≤ most_letters

-- The flow is within the capacities, and the mask of each letter is the set of the letters to which residual edges lead from it.
pub record IsResidualNet (cap flow : List ℕ) (from : ℕ) (masks : List ℕ) : Type 0 where
  pub low : IsLow cap
  pub table : IsTable flow
  pub within : IsWithin (cell cap) (cell flow)
  pub successors : AreMasksOf masks (residual cap flow from)

-- From the old flow to the new one, numbers changed between x and y at most.
abbrev pub IsSameBut : List ℕ → List ℕ → ℕ → ℕ → Type 0
IsSameBut old new x y = (u v : ℕ) → u < 52 → v < 52 → place u v ≢ place x y → place u v ≢ place y x → cell old u v ≡ cell new u v
