-- Corners of a list of moves that is being straightened.
use Rattle.std.specs.Prelude.{◌≡◌, List, [], ◌∷◌, ◌++◌, ◌⊎◌}
use Rattle.wh_words.specs.Tuples.{TupleData}
use Rattle.wh_words.specs.Moves.{Move, inverse_move}
use Rattle.wh_peak.specs.Straightness.{IsPeak}

-- Two moves from a tuple make a corner where they are one, or where they make a peak of it.
abbrev pub IsCorner : TupleData → Move → Move → Type 0
IsCorner top left right = (left ≡ right) ⊎ IsPeak top left right

-- The last move that is done leads to a tuple at which the next move turns: the way back and the next move make a corner.
pub record TurnsBack (here : TupleData) (done : List Move) (next back : Move) : Type 0 where
  pub front : List Move
  pub last : Move
  pub is : done ≡ front ++ last ∷ []
  pub undoes : back ≡ inverse_move last
  pub corner : IsCorner here back next

-- At no last move does the next one turn.
abbrev pub GoesOn : TupleData → List Move → Move → Type 0
GoesOn here done next = (front : List Move) (last : Move) → done ≡ front ++ last ∷ [] → ¬ (IsCorner here (inverse_move last) next)
