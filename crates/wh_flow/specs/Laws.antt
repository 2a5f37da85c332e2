-- What holds of flows and cuts, as statements that contracts name.
use Rattle.std.specs.Prelude.{◌≡◌, ℕ, ◌<◌, ◌≤◌, Bool, ◌↔◌, ◌⊎◌}
use Rattle.wh_words.specs.Flows.{IsFlow, IsFirstFlow, IsBefore, HaveOneValue, FillsLeastCut, IsMaximum, Separates, IsMinimumCut, IsLeastCut, IsClosed, HasValue, degree, capacity_of_set}

-- Another flow of the value of the first one is the same, or comes after it.
abbrev pub FirstFlowComesFirst : Type 0
FirstFlowComesFirst = (c f : ℕ → ℕ → ℕ) (s t : ℕ) → IsFirstFlow c f s t → (g : ℕ → ℕ → ℕ) → IsFlow c g s t → HaveOneValue f g s
    → ((x y : ℕ) → x < 52 → y < 52 → f x y ≡ g x y) ⊎ IsBefore f g

-- There is one first flow of a value.
abbrev pub FirstFlowIsUnique : Type 0
FirstFlowIsUnique = (c f g : ℕ → ℕ → ℕ) (s t : ℕ) → IsFirstFlow c f s t → IsFirstFlow c g s t → HaveOneValue f g s → (x y : ℕ) → x < 52 → y < 52 → f x y ≡ g x y

-- A flow that fills a least cut has the greatest value.
abbrev pub FilledCutIsMaximum : Type 0
FilledCutIsMaximum = (c f : ℕ → ℕ → ℕ) (s t : ℕ) → s < 52 → FillsLeastCut c f s t → IsMaximum c f s t

-- The minimum cuts are the sets that separate and that no residual edge of a greatest flow leaves, after Picard and Queyranne 1980.
abbrev pub MinimumCutsAreClosed : Type 0
MinimumCutsAreClosed = (c f : ℕ → ℕ → ℕ) (s t : ℕ) → s < 52 → IsFlow c f s t → FillsLeastCut c f s t → (set : ℕ → Bool) → IsMinimumCut c s t set ↔ (Separates s t set × IsClosed c f set)

-- The greatest value is the degree of s just where no set that separates has less capacity, after Roig, Ventura and Weil 2007.
abbrev pub ValueIsDegree : Type 0
ValueIsDegree = (c f : ℕ → ℕ → ℕ) (s t : ℕ) → s < 52 → IsFlow c f s t → FillsLeastCut c f s t
    → HasValue f s (degree c s) ↔ ((set : ℕ → Bool) → Separates s t set → degree c s ≤ capacity_of_set c set)

-- There is one least cut.
abbrev pub LeastCutIsUnique : Type 0
LeastCutIsUnique = (c : ℕ → ℕ → ℕ) (s t : ℕ) (a b : ℕ → Bool) → IsLeastCut c s t a → IsLeastCut c s t b → (x : ℕ) → x < 52 → a x ≡ b x
