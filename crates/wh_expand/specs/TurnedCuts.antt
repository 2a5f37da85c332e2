-- Cuts that act as others do.
use Rattle.std.specs.Prelude.{◌≡◌, ◌%◌}
use Rattle.wh_words.specs.Moves.{Kind}
use Rattle.wh_words.specs.Moves.Kind.{swap, invert, cut}

-- A cut whose multiplier is the inverse of a generator. It acts as the cut of the other letters with the generator.
abbrev pub IsTurnedCut : Kind → Type 0
IsTurnedCut (swap k) = ⊥
IsTurnedCut (invert k) = ⊥
IsTurnedCut (cut a set) = a % 2 ≡ 1
