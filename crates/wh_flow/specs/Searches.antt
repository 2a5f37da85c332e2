-- The search for a way along residual edges at pairs from a place on. Letters that were seen are kept in a set.
use Rattle.std.specs.Prelude.{◌≡◌, ◌≢◌, ℕ, ◌-◌, ◌<◌, ◌≤◌, ltb, leb, ◌&&◌, ◌⊎◌, Bool, true, false, cond, List}
use Rattle.wh_words.specs.LetterSets.{in_set}
use Rattle.wh_words.specs.Flows.{sum_below, place, IsWithin}
use Rattle.wh_flow.specs.Tables.{IsTable, cell}
use Rattle.wh_flow.specs.Rerouting.{IsMoved}

-- Only the first letters have capacities.
abbrev pub IsOfLetters : ℕ → List ℕ → Type 0
IsOfLetters letters cap = (x y : ℕ) → x < 52 → y < 52 → (letters ≤ x) ⊎ (letters ≤ y) → cell cap x y ≡ 0

-- Something flows from y to x, at a pair from the place on.
abbrev pub goes_back : List ℕ → ℕ → ℕ → ℕ → Bool
goes_back flow from x y = leb from (place y x) && ltb 0 (cell flow y x)

-- The residual capacity from x to y at pairs from a place on: how much more can go, by less flow back or else by more flow there.
abbrev pub residual : List ℕ → List ℕ → ℕ → ℕ → ℕ → ℕ
residual cap flow from x y = cond (goes_back flow from x y) (cell flow y x) (cond (leb from (place x y)) (cell cap x y - cell flow x y) 0)

-- How many letters weren't seen.
abbrev pub unseen : ℕ → ℕ
unseen seen = sum_below 52 (λ x. cond (in_set seen x) 0 1)

-- What was seen stays seen.
abbrev pub Grew : ℕ → ℕ → Type 0
Grew old new = (y : ℕ) → in_set old y ≡ true → in_set new y ≡ true

-- From the old flow to the new one, d went from x to y directly.
pub record IsShifted (cap old new : List ℕ) (from x y d : ℕ) : Type 0 where
  pub within : IsWithin (cell cap) (cell new)
  pub moved : IsMoved (cell old) (cell new) x y d
  pub front : (u v : ℕ) → u < 52 → v < 52 → place u v < from → cell old u v ≡ cell new u v
  pub row : (u v : ℕ) → u < 52 → v < 52 → u ≢ x → u ≢ y → cell old u v ≡ cell new u v
  pub column : (u v : ℕ) → u < 52 → v < 52 → v ≢ x → v ≢ y → cell old u v ≡ cell new u v

-- From the old flow to the new one, d went from v to t by letters that weren't seen.
pub record IsPushed (cap old new : List ℕ) (seen from v t d : ℕ) : Type 0 where
  pub within : IsWithin (cell cap) (cell new)
  pub moved : IsMoved (cell old) (cell new) v t d
  pub front : (x y : ℕ) → x < 52 → y < 52 → place x y < from → cell old x y ≡ cell new x y
  pub row : (x y : ℕ) → x < 52 → y < 52 → in_set seen x ≡ true → cell old x y ≡ cell new x y
  pub column : (x y : ℕ) → x < 52 → y < 52 → in_set seen y ≡ true → cell old x y ≡ cell new x y

-- A flow that takes 1 from v to x by letters that weren't seen.
pub record IsLed (cap flow : List ℕ) (seen v x : ℕ) : Type 0 where
  pub new : List ℕ
  pub table : IsTable new
  pub pushed : IsPushed cap flow new seen 0 v x 1

-- No residual edge leaves the set.
abbrev pub IsShut : List ℕ → List ℕ → ℕ → (ℕ → Bool) → Type 0
IsShut cap flow from set = (x y : ℕ) → x < 52 → y < 52 → set x ≡ true → 0 < residual cap flow from x y → set y ≡ true

-- The search from v didn't find t: what it saw is what v leads to.
pub record IsSearched (cap flow : List ℕ) (old new from v t : ℕ) : Type 0 where
  pub start : in_set new v ≡ true
  pub omits : in_set old t ≡ false → in_set new t ≡ false
  pub shut : (x : ℕ) → x < 52 → in_set old x ≡ false → in_set new x ≡ true → (y : ℕ) → y < 52 → 0 < residual cap flow from x y → in_set new y ≡ true
  pub least : (set : ℕ → Bool) → set v ≡ true → IsShut cap flow from set → (x : ℕ) → x < 52 → in_set old x ≡ false → in_set new x ≡ true → set x ≡ true

-- The same before the edges from v are all tried.
pub record IsSearching (cap flow : List ℕ) (old now from v t : ℕ) : Type 0 where
  pub start : in_set now v ≡ true
  pub omits : in_set old t ≡ false → in_set now t ≡ false
  pub shut : (x : ℕ) → x < 52 → x ≢ v → in_set old x ≡ false → in_set now x ≡ true → (z : ℕ) → z < 52 → 0 < residual cap flow from x z → in_set now z ≡ true
  pub least : (set : ℕ → Bool) → set v ≡ true → IsShut cap flow from set → (x : ℕ) → x < 52 → in_set old x ≡ false → in_set now x ≡ true → set x ≡ true
