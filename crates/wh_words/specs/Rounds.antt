-- A word that is read round and round.
use Rattle.std.specs.Prelude.{◌≡◌, ℕ, ◌+◌, ◌<◌, List, length, get_or, ◌%◌}

-- The letter at a place, from the first letter on again after the last.
abbrev pub round : List ℕ → ℕ → ℕ
round w m = get_or w (m % length w) 0

-- From two places on so many letters agree.
abbrev pub Agree : List ℕ → ℕ → ℕ → ℕ → Type 0
Agree w i j k = (m : ℕ) → m < k → round w (i + m) ≡ round w (j + m)
