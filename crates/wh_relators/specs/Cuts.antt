-- The cuts of a rank, in the order of moves, and sets of letters by tests.
use Rattle.std.specs.Prelude.{ℕ, ◌-◌, ◌*◌, ◌^◌, ◌&&◌, ◌||◌, ◌==◌, Bool, not, List, map}
use Rattle.std.specs.List.{flat_map, filter, range_with_len}
use Rattle.wh_words.specs.Letters.{inverse_letter}
use Rattle.wh_words.specs.LetterSets.{in_set}
use Rattle.wh_words.specs.Moves.{Move, cut_move, inverse_move}
use Rattle.wh_graph.specs.SetMasks.{mask}

-- The multiplier of a cut, and its set.
pub record Cut : Type 0 where
  pub mult : ℕ
  pub set : ℕ

-- The letters of rank n.
abbrev pub letters : ℕ → List ℕ
letters n = range_with_len 0 (2 * n)

-- The sets of letters of rank n.
abbrev pub sets : ℕ → List ℕ
sets n = range_with_len 0 (2 ^ (2 * n))

-- The generators of rank n, from 1.
abbrev pub generators : ℕ → List ℕ
generators n = range_with_len 1 n

-- The generators that are swapped with the next.
abbrev pub swapped : ℕ → List ℕ
swapped n = range_with_len 1 (n - 1)

-- Whether the set holds the letter and omits its inverse.
abbrev pub parts : ℕ → ℕ → Bool
parts a set = in_set set a && not (in_set set (inverse_letter a))

-- The cuts of rank n: for each multiplier the sets that hold it and omit its inverse.
unfoldable pub cuts : ℕ → List Cut
cuts n = flat_map (λ a. map (λ set. record { mult = a; set = set }) (filter (parts a) (sets n))) (letters n)

-- ---- moves
-- The move of a cut.
abbrev pub does : ℕ → Cut → Move
does n x = cut_move n x.mult x.set

-- The inverse of the move of a cut.
abbrev pub undoes : ℕ → Cut → Move
undoes n x = inverse_move (does n x)

-- ---- sets
-- The letters of two sets.
abbrev pub union : ℕ → ℕ → ℕ → ℕ
union n A B = mask (2 * n) (λ x. in_set A x || in_set B x)

-- The letters of two sets without one letter.
abbrev pub union_less : ℕ → ℕ → ℕ → ℕ → ℕ
union_less n A B b = mask (2 * n) (λ x. (in_set A x || in_set B x) && not (x == b))

-- The letters that are not in a set.
abbrev pub others : ℕ → ℕ → ℕ
others n A = mask (2 * n) (λ x. not (in_set A x))

-- All letters but one.
abbrev pub all_but : ℕ → ℕ → ℕ
all_but n a = mask (2 * n) (λ x. not (x == a))

-- The letters that a map which is its own inverse takes the letters of a set to.
abbrev pub mapped : ℕ → (ℕ → ℕ) → ℕ → ℕ
mapped n p A = mask (2 * n) (λ x. in_set A (p x))

-- The cut of the letters that a map which is its own inverse takes those of a cut to.
abbrev pub mapped_cut : ℕ → (ℕ → ℕ) → Cut → Cut
mapped_cut n p x = record { mult = p x.mult; set = mapped n p x.set }

-- The inner automorphism of a letter: it conjugates by the letter.
abbrev pub inner : ℕ → ℕ → Cut
inner n a = record { mult = a; set = all_but n (inverse_letter a) }
