-- Moves, that is Whitehead automorphisms of both kinds, after Lyndon and Schupp, I.4.
use Rattle.std.specs.Prelude.{◌≡◌, ℕ, ◌+◌, ◌-◌, ◌*◌, ◌^◌, ◌<◌, ◌≤◌}
use Rattle.std.specs.Int.{bit_at}
use Rattle.std.specs.Ordering.{nat_cmp, ordering_then}
use Rattle.std.specs.declared.cmp.Ordering.{Ordering}
use Rattle.std.specs.declared.cmp.Ordering.TheVariants.{Less, Greater}
use Rattle.wh_words.specs.Limits.{most_rank}
use Rattle.wh_words.specs.Letters.{inverse_letter}

-- The swap of generators k and k + 1, the inversion of generator k, and the cut of a multiplier and a set of letters. Generators are numbered from 1.
pub data Kind : Type 0 where
  swap : ℕ → Kind
  invert : ℕ → Kind
  cut : ℕ → ℕ → Kind

-- A kind of move, for a rank.
pub record Move : Type 0 where
  pub rank : ℕ
  pub kind : Kind

-- A cut of rank n: its multiplier is a letter of the rank, and its set has letters of the rank alone, with the multiplier and without its inverse.
pub record IsCut (n a set : ℕ) : Type 0 where
  pub of_rank : a < 2 * n
  pub within : set < 2 ^ (2 * n)
  pub holds : bit_at set a ≡ 1
  pub omits : bit_at set (inverse_letter a) ≡ 0

-- The kind is one of rank n.
abbrev pub IsKind : ℕ → Kind → Type 0
IsKind n (swap k) = (0 < k) × (k < n)
IsKind n (invert k) = (0 < k) × (k ≤ n)
IsKind n (cut a set) = IsCut n a set

-- The move is one of its rank, which is at most 26.
pub record IsMove (m : Move) : Type 0 where
  pub rank : m.rank ≤ most_rank
  pub kind : IsKind m.rank m.kind

-- The cut of rank n with this multiplier and this set.
abbrev pub cut_move : ℕ → ℕ → ℕ → Move
cut_move n a set = record { rank = n; kind = cut a set }

-- A cut whose set has the multiplier alone. It is the identity.
abbrev pub IsIdentityCut : Kind → Type 0
IsIdentityCut (swap k) = ⊥
IsIdentityCut (invert k) = ⊥
IsIdentityCut (cut a set) = set ≡ 2 ^ a

-- A set that holds a and omits a', with a' in the place of a.
abbrev pub turned_set : ℕ → ℕ → ℕ
turned_set a set = set + 2 ^ inverse_letter a - 2 ^ a

-- Swaps and inversions are their own inverses; the inverse of a cut (A, a) is the cut (A - a + a', a').
abbrev pub inverse_kind : Kind → Kind
inverse_kind (swap k) = swap k
inverse_kind (invert k) = invert k
inverse_kind (cut a set) = cut (inverse_letter a) (turned_set a set)

-- The inverse of a move.
abbrev pub inverse_move : Move → Move
inverse_move m = record { rank = m.rank; kind = inverse_kind m.kind }

-- Within a rank: swaps by number, then inversions by number, then cuts by multiplier and then by set.
abbrev pub kind_cmp : Kind → Kind → Ordering
kind_cmp (swap j) (swap k) = nat_cmp j k
kind_cmp (swap j) (invert k) = Less
kind_cmp (swap j) (cut a set) = Less
kind_cmp (invert j) (swap k) = Greater
kind_cmp (invert j) (invert k) = nat_cmp j k
kind_cmp (invert j) (cut a set) = Less
kind_cmp (cut a set) (swap k) = Greater
kind_cmp (cut a set) (invert k) = Greater
kind_cmp (cut a set) (cut b other) = ordering_then (nat_cmp a b) (nat_cmp set other)

-- The order of moves: by rank first.
abbrev pub move_cmp : Move → Move → Ordering
move_cmp m n = ordering_then (nat_cmp m.rank n.rank) (kind_cmp m.kind n.kind)
