-- What changes when a flow is rerouted, one way after the other.
use Rattle.std.specs.Prelude.{◌≡◌, ℕ, ◌+◌, ◌<◌, ◌≤◌, ◌==◌, cond, Bool, true, false}
use Rattle.wh_words.specs.Flows.{outflow, inflow, IsWithin, AgreeBefore, place}

-- What flows out of each letter less what flows into it is the same in two tables.
abbrev pub HaveOneNetFlow : (ℕ → ℕ → ℕ) → (ℕ → ℕ → ℕ) → Type 0
HaveOneNetFlow f g = (v : ℕ) → v < 52 → outflow f v + inflow g v ≡ outflow g v + inflow f v

-- The number d at the letter p, and 0 elsewhere.
abbrev pub at : ℕ → ℕ → ℕ → ℕ
at v p d = cond (v == p) d 0

-- From f to g, d more flows from p on to q: the net flow out of p rises by d, and that out of q falls by d.
abbrev pub IsMoved : (ℕ → ℕ → ℕ) → (ℕ → ℕ → ℕ) → ℕ → ℕ → ℕ → Type 0
IsMoved f g p q d = (v : ℕ) → v < 52 → (outflow g v + inflow f v) + at v q d ≡ (outflow f v + inflow g v) + at v p d

-- No residual edge at a pair from a place on leaves the set.
pub record IsClosedFrom (from : ℕ) (c f : ℕ → ℕ → ℕ) (set : ℕ → Bool) : Type 0 where
  pub full : (x y : ℕ) → x < 52 → y < 52 → set x ≡ true → set y ≡ false → from ≤ place x y → c x y ≤ f x y
  pub empty : (x y : ℕ) → x < 52 → y < 52 → set x ≡ true → set y ≡ false → from ≤ place y x → f y x ≡ 0

-- Among the tables with one net flow, f has the first numbers before a place.
abbrev pub IsFirstUpTo : ℕ → (ℕ → ℕ → ℕ) → (ℕ → ℕ → ℕ) → Type 0
IsFirstUpTo k c f = (g : ℕ → ℕ → ℕ) → IsWithin c g → HaveOneNetFlow f g → (x y : ℕ) → x < 52 → y < 52 → place x y < k → AgreeBefore (place x y) f g → f x y ≤ g x y

-- No table with the same net flow and the same numbers before the pair (x, y) has less there.
abbrev pub IsLeastAt : (ℕ → ℕ → ℕ) → (ℕ → ℕ → ℕ) → ℕ → ℕ → Type 0
IsLeastAt c f x y = (g : ℕ → ℕ → ℕ) → IsWithin c g → HaveOneNetFlow f g → AgreeBefore (place x y) f g → f x y ≤ g x y
