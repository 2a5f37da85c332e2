-- How a move is packed into one number: from the highest bits to the lowest its rank, a code of what it is, and a generator or a set.
use Rattle.std.specs.Prelude.{◌≡◌, ℕ, zero, suc, ◌+◌, ◌*◌, ◌/◌, ◌%◌, ◌^◌, refl}
use Rattle.std.specs.Hash.{HashWrites, u64}
use Rattle.std.proofs.Common.{arith}
use Rattle.wh_words.specs.Moves.{Kind, Move}
use Rattle.wh_words.specs.Moves.Kind.{swap, invert, cut}

-- A swap has the code 0, an inversion 1, and a cut its multiplier and 2.
abbrev pub kind_of_code : ℕ → ℕ → Kind
kind_of_code zero rest = swap rest
kind_of_code (suc zero) rest = invert rest
kind_of_code (suc (suc a)) rest = cut a rest

-- The code of a kind, and what stands below it.
abbrev pub code_of : Kind → ℕ
code_of (swap k) = 0
code_of (invert k) = 1
code_of (cut a set) = suc (suc a)

abbrev pub rest_of : Kind → ℕ
rest_of (swap k) = k
rest_of (invert k) = k
rest_of (cut a set) = set

-- The move of a number.
abbrev pub unpacked : ℕ → Move
unpacked n = record { rank = n / 2 ^ 52 / 64; kind = kind_of_code (n / 2 ^ 52 % 64) (n % 2 ^ 52) }

-- The number of a move.
abbrev pub packed : Move → ℕ
packed m = (m.rank * 64 + code_of m.kind) * 2 ^ 52 + rest_of m.kind

-- What a hasher is fed of a move: its number.
abbrev pub hash_writes : Move → HashWrites
hash_writes m = u64 (packed m)

code_back : (c r : ℕ) → code_of (kind_of_code c r) ≡ c
code_back zero r = refl
code_back (suc zero) r = refl
code_back (suc (suc a)) r = refl

rest_back : (c r : ℕ) → rest_of (kind_of_code c r) ≡ r
rest_back zero r = refl
rest_back (suc zero) r = refl
rest_back (suc (suc a)) r = refl

-- The number of the move of a number is that number.
pub packed_back : (n : ℕ) → packed (unpacked n) ≡ n
packed_back n =
    omega (
      arith,
      code_back (n / 2 ^ 52 % 64) (n % 2 ^ 52),
      rest_back (n / 2 ^ 52 % 64) (n % 2 ^ 52),
    )
