-- What the inverse of a move means, as statements that contracts name, after Lyndon and Schupp, I.4.
use Rattle.std.specs.Prelude.{◌≡◌}
use Rattle.wh_words.specs.Tuples.{TupleData, IsTuple}
use Rattle.wh_words.specs.Moves.{Move, IsMove, inverse_move}
use Rattle.wh_words.specs.Action.{act}

-- The inverse of a move is a move.
abbrev pub InverseIsMove : Type 0
InverseIsMove = (m : Move) → IsMove m → IsMove (inverse_move m)

-- The inverse of the inverse of a move is the move.
abbrev pub InverseOfInverse : Type 0
InverseOfInverse = (m : Move) → IsMove m → inverse_move (inverse_move m) ≡ m

-- A move and then its inverse give a tuple back.
abbrev pub InverseUndoes : Type 0
InverseUndoes = (t : TupleData) (m : Move) → IsTuple t → IsMove m → act (act t m) (inverse_move m) ≡ t
