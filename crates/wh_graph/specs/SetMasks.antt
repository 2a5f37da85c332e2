-- Sets of letters by tests.
use Rattle.std.specs.Prelude.{ℕ, zero, suc, ◌+◌, ◌*◌, Bool, cond}

-- The set of the letters below k that pass a test.
unfoldable pub mask : ℕ → (ℕ → Bool) → ℕ
mask zero has = 0
mask (suc k) has = cond (has 0) 1 0 + 2 * mask k (λ x. has (suc x))
