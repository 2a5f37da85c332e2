-- How much room the text of a list of moves takes at most in ranks of stabilisers, with the number of a generator for each move.
use Rattle.std.specs.Prelude.{ℕ, ◌+◌, ◌≤◌, List, [], ◌∷◌}
use Rattle.wh_words.specs.Moves.{Kind, Move}
use Rattle.wh_words.specs.Moves.Kind.{swap, invert, cut}

-- A field of at most 10 bytes for a cut and of 2 for a swap or an inversion, a number of 5 digits, and a space before each.
abbrev pub kind_weight : Kind → ℕ
kind_weight (swap k) = 9
kind_weight (invert k) = 9
kind_weight (cut a set) = 17

-- The weights of the moves together.
unfoldable pub weight : List Move → ℕ
weight [] = 0
weight (m ∷ ms) = kind_weight m.kind + weight ms

-- The weight of the longest relations of rank 4: three cuts, five swaps and an inversion.
abbrev pub most_weight : ℕ
most_weight = 105

-- The list isn't heavier than this.
abbrev pub IsLight : List Move → Type 0
IsLight ms = weight ms ≤ most_weight
