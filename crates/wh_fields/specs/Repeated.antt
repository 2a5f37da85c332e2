-- What the numbers below k give, one after the other.
use Rattle.std.specs.Prelude.{ℕ, zero, suc, List, [], ◌++◌}

-- What 0, 1 and so on give, below k.
unfoldable pub below : {A : Type 0} → (ℕ → List A) → ℕ → List A
below item zero = []
below item (suc k) = below item k ++ item k
