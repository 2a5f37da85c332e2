-- Canonical numbers: decimal digits without sign and without a leading zero, below 2 ^ 64.
use Rattle.std.specs.Prelude.{ℕ, ◌+◌, ◌-◌, ◌*◌, ◌^◌, ◌==◌, leb, ltb, ◌&&◌, Bool, cond, List, [], ◌∷◌, length, Option, Some, None}
use Rattle.std.specs.Option.{option_and_then}

-- Whether a byte is a decimal digit.
abbrev pub is_digit : ℕ → Bool
is_digit b = leb 48 b && leb b 57

-- A number with one more digit after its own, where that is below 2 ^ 64.
abbrev pub next_digit : ℕ → ℕ → Option ℕ
next_digit n b = cond (is_digit b && ltb (10 * n + (b - 48)) (2 ^ 64)) (Some (10 * n + (b - 48))) None

-- A number with more digits after its own.
unfoldable pub digits_from : ℕ → List ℕ → Option ℕ
digits_from n [] = Some n
digits_from n (b ∷ bs) = option_and_then (λ m. digits_from m bs) (next_digit n b)

-- The number of a field: of `0`, or of digits whose first isn't 0.
abbrev pub number : List ℕ → Option ℕ
number [] = None
number (b ∷ bs) = cond (b == 48) (cond (length bs == 0) (Some 0) None) (digits_from 0 (b ∷ bs))
