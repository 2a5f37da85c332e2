-- Sets of letters. A set is a number that has, for each of its letters, the bit at the letter's index.
use Rattle.std.specs.Prelude.{ℕ, ◌==◌, Bool}
use Rattle.std.specs.Int.{bit_at}

-- Whether a letter is in a set.
abbrev pub in_set : ℕ → ℕ → Bool
in_set set x = bit_at set x == 1
