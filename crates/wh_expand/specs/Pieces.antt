-- Pieces of a list in which a number doesn't stand.
use Rattle.std.specs.Prelude.{◌≢◌, ℕ, ◌<◌, ◌≤◌, List, get_or}

-- From one place up to another the list lacks a number.
abbrev pub LacksBetween : List ℕ → ℕ → ℕ → ℕ → Type 0
LacksBetween counts n start end = (k : ℕ) → start ≤ k → k < end → get_or counts k 0 ≢ n
