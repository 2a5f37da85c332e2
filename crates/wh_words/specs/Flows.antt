-- Flows and cuts in a graph on the 52 letters, after Ford and Fulkerson. A table gives a number for each two letters: a capacity, or what flows from the first to the second.
use Rattle.std.specs.Prelude.{◌≡◌, ◌≢◌, ℕ, zero, suc, ◌+◌, ◌*◌, ◌<◌, ◌≤◌, Bool, true, false, cond, not}

-- ---- sums
-- f 0 + f 1 + .. + f (n - 1).
unfoldable pub sum_below : ℕ → (ℕ → ℕ) → ℕ
sum_below zero f = 0
sum_below (suc n) f = sum_below n f + f n

-- A number where a test holds, else 0.
abbrev pub where_in : Bool → ℕ → ℕ
where_in b v = cond b v 0

-- What flows out of a letter.
abbrev pub outflow : (ℕ → ℕ → ℕ) → ℕ → ℕ
outflow f x = sum_below 52 (λ y. f x y)

-- What flows into a letter.
abbrev pub inflow : (ℕ → ℕ → ℕ) → ℕ → ℕ
inflow f x = sum_below 52 (λ y. f y x)

-- The degree of a letter: the sum of the capacities at it.
abbrev pub degree : (ℕ → ℕ → ℕ) → ℕ → ℕ
degree c x = sum_below 52 (λ y. c x y)

-- ---- flows
-- No number of the table is above the capacity.
abbrev pub IsWithin : (ℕ → ℕ → ℕ) → (ℕ → ℕ → ℕ) → Type 0
IsWithin c f = (x y : ℕ) → x < 52 → y < 52 → f x y ≤ c x y

-- A flow from s to t is within the capacities, and as much flows out of each other letter as into it.
pub record IsFlow (c f : ℕ → ℕ → ℕ) (s t : ℕ) : Type 0 where
  pub within : IsWithin c f
  pub conserved : (x : ℕ) → x < 52 → x ≢ s → x ≢ t → outflow f x ≡ inflow f x

-- The value of a flow from s: what flows out of s less what flows into it.
abbrev pub HasValue : (ℕ → ℕ → ℕ) → ℕ → ℕ → Type 0
HasValue f s v = outflow f s ≡ inflow f s + v

-- Two flows from s have one value.
abbrev pub HaveOneValue : (ℕ → ℕ → ℕ) → (ℕ → ℕ → ℕ) → ℕ → Type 0
HaveOneValue f g s = outflow f s + inflow g s ≡ outflow g s + inflow f s

-- The value of g is at most that of f.
abbrev pub HasAtMostValueOf : (ℕ → ℕ → ℕ) → (ℕ → ℕ → ℕ) → ℕ → Type 0
HasAtMostValueOf g f s = outflow g s + inflow f s ≤ outflow f s + inflow g s

-- The value of g is greater than that of f.
abbrev pub HasMoreValueThan : (ℕ → ℕ → ℕ) → (ℕ → ℕ → ℕ) → ℕ → Type 0
HasMoreValueThan g f s = outflow f s + inflow g s < outflow g s + inflow f s

-- No flow from s to t has a greater value than f.
abbrev pub IsMaximum : (ℕ → ℕ → ℕ) → (ℕ → ℕ → ℕ) → ℕ → ℕ → Type 0
IsMaximum c f s t = (g : ℕ → ℕ → ℕ) → IsFlow c g s t → HasAtMostValueOf g f s

-- ---- cuts
-- The set holds s and omits t.
pub record Separates (s t : ℕ) (set : ℕ → Bool) : Type 0 where
  pub holds : set s ≡ true
  pub omits : set t ≡ false

-- The capacity of a set: the sum of the capacities from its letters to the others.
abbrev pub capacity_of_set : (ℕ → ℕ → ℕ) → (ℕ → Bool) → ℕ
capacity_of_set c set = sum_below 52 (λ x. where_in (set x) (sum_below 52 (λ y. where_in (not (set y)) (c x y))))

-- A minimum cut: no set that separates s and t has less capacity.
pub record IsMinimumCut (c : ℕ → ℕ → ℕ) (s t : ℕ) (set : ℕ → Bool) : Type 0 where
  pub separates : Separates s t set
  pub minimum : (other : ℕ → Bool) → Separates s t other → capacity_of_set c set ≤ capacity_of_set c other

-- The least cut: the minimum cut that lies in each minimum cut.
pub record IsLeastCut (c : ℕ → ℕ → ℕ) (s t : ℕ) (set : ℕ → Bool) : Type 0 where
  pub cut : IsMinimumCut c s t set
  pub least : (other : ℕ → Bool) → IsMinimumCut c s t other → (x : ℕ) → x < 52 → set x ≡ true → other x ≡ true

-- The value of the flow is the capacity of the least cut. By the theorem of Ford and Fulkerson this is so for the flows of greatest value.
pub record FillsLeastCut (c f : ℕ → ℕ → ℕ) (s t : ℕ) : Type 0 where
  pub set : ℕ → Bool
  pub cut : IsLeastCut c s t set
  pub value : HasValue f s (capacity_of_set c set)

-- No residual edge leaves the set, after Picard and Queyranne 1980: edges out of it are full, and nothing flows into it.
pub record IsClosed (c f : ℕ → ℕ → ℕ) (set : ℕ → Bool) : Type 0 where
  pub full : (x y : ℕ) → x < 52 → y < 52 → set x ≡ true → set y ≡ false → c x y ≤ f x y
  pub empty : (x y : ℕ) → x < 52 → y < 52 → set x ≡ true → set y ≡ false → f y x ≡ 0

-- The letters that residual edges lead to from v: the least closed set that holds v.
pub record IsReach (c f : ℕ → ℕ → ℕ) (v : ℕ) (set : ℕ → Bool) : Type 0 where
  pub holds : set v ≡ true
  pub closed : IsClosed c f set
  pub least : (other : ℕ → Bool) → other v ≡ true → IsClosed c f other → (x : ℕ) → x < 52 → set x ≡ true → other x ≡ true

-- ---- the order of flows
-- The place of a pair of letters in their order: by the first letter, then by the second.
abbrev pub place : ℕ → ℕ → ℕ
place x y = 52 * x + y

-- Two tables agree at all pairs before a place.
abbrev pub AgreeBefore : ℕ → (ℕ → ℕ → ℕ) → (ℕ → ℕ → ℕ) → Type 0
AgreeBefore k f g = (x y : ℕ) → x < 52 → y < 52 → place x y < k → f x y ≡ g x y

-- f comes before g: at the first pair where they differ, the number of f is smaller.
pub record IsBefore (f g : ℕ → ℕ → ℕ) : Type 0 where
  pub x : ℕ
  pub y : ℕ
  pub x_within : x < 52
  pub y_within : y < 52
  pub agree : AgreeBefore (place x y) f g
  pub less : f x y < g x y

-- The first flow of its value: at the first pair where another flow of the value differs from it, its number isn't greater.
pub record IsFirstFlow (c f : ℕ → ℕ → ℕ) (s t : ℕ) : Type 0 where
  pub flow : IsFlow c f s t
  pub first : (g : ℕ → ℕ → ℕ) → IsFlow c g s t → HaveOneValue f g s → (x y : ℕ) → x < 52 → y < 52 → AgreeBefore (place x y) f g → f x y ≤ g x y
