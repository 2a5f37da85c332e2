-- Sets of letters as masks: the letters that a row of a table names, and the letters of a set that weren't seen.
use Rattle.std.specs.Prelude.{◌≡◌, ℕ, ◌<◌, ltb, ◌&&◌, true, false, List, get_or}
use Rattle.wh_words.specs.LetterSets.{in_set}

-- The mask has the letters at which a row isn't 0.
abbrev pub IsMaskOf : ℕ → (ℕ → ℕ) → Type 0
IsMaskOf mask row = (y : ℕ) → y < 64 → in_set mask y ≡ (ltb y 52 && ltb 0 (row y))

-- There is a mask for the row of each letter.
abbrev pub AreMasksOf : List ℕ → (ℕ → ℕ → ℕ) → Type 0
AreMasksOf masks table = (v : ℕ) → v < 52 → IsMaskOf (get_or masks v 0) (table v)

-- A letter of a set that wasn't seen.
abbrev pub IsFresh : ℕ → ℕ → ℕ → Type 0
IsFresh set seen y = (y < 64) × ((in_set set y ≡ true) × (in_set seen y ≡ false))

-- All letters of a set were seen.
abbrev pub IsAllSeen : ℕ → ℕ → Type 0
IsAllSeen set seen = (y : ℕ) → y < 64 → in_set set y ≡ true → in_set seen y ≡ true
