-- Letters of a free group, after Lyndon and Schupp, I.1. A letter is its index: generator g has the index 2 g - 2, and its inverse the index 2 g - 1.
use Rattle.std.specs.Prelude.{ℕ, ◌+◌, ◌-◌, ◌*◌, ◌%◌}

-- The inverse of a letter is the other letter of the same generator.
unfoldable pub inverse_letter : ℕ → ℕ
inverse_letter x = x + 1 - 2 * (x % 2)
