-- The parts of a way round a peak of two cuts, after Higgins and Lyndon 1974.
use Rattle.std.specs.Prelude.{◌≡◌, ℕ, ◌*◌, ◌^◌, ◌<◌, Bool, true, false, not, ◌&&◌, List, [], ◌∷◌, ◌++◌}
use Rattle.std.specs.List.{All}
use Rattle.wh_words.specs.LetterSets.{in_set}
use Rattle.wh_words.specs.Tuples.{TupleData, tuple_length}
use Rattle.wh_words.specs.Moves.{Kind, Move, IsCut, cut_move}
use Rattle.wh_words.specs.Action.{act}
use Rattle.wh_composites.specs.SignedPerms.{IsTurnOfRank, letter_map, TakeLetters}
use Rattle.wh_peak.specs.Relations.{HasLetters}

-- A move, then swaps and inversions of rank n that take letters as a map does, and then a move.
pub record IsTurnedWay (n : ℕ) (first last : Move) (map : ℕ → ℕ) (ms : List Move) : Type 0 where
  pub turns : List Move
  pub are_turns : All (IsTurnOfRank n) turns
  pub take : TakeLetters n turns map
  pub is : ms ≡ first ∷ (turns ++ last ∷ [])

-- Whether two answers agree.
abbrev pub agree : Bool → Bool → Bool
agree true b = b
agree false b = not b

-- The quadrant of a letter: the letters that are in each of two sets where it is.
pub record IsQuadrant (n A B c Q : ℕ) : Type 0 where
  pub within : Q < 2 ^ (2 * n)
  pub letters : HasLetters n Q (λ x. agree (in_set A c) (in_set A x) && agree (in_set B c) (in_set B x))

-- A cut by the quadrant of its multiplier that shortens a tuple.
pub record Serves (t : TupleData) (A B c Q : ℕ) : Type 0 where
  pub cut : IsCut t.rank c Q
  pub quadrant : IsQuadrant t.rank A B c Q
  pub shortens : tuple_length (act t (cut_move t.rank c Q)) < tuple_length t

-- The cut of the letters that a swap or an inversion takes into the set of a cut, at the letter that the multiplier goes to.
pub record IsMovedCut (n : ℕ) (k : Kind) (a A : ℕ) (m : Move) : Type 0 where
  pub set : ℕ
  pub is : m ≡ cut_move n (letter_map k a) set
  pub cut : IsCut n (letter_map k a) set
  pub letters : HasLetters n set (λ x. in_set A (letter_map k x))
