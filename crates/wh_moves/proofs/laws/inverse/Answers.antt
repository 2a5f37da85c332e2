use Rattle.wh_moves.proofs.InverseMoves.{inverse_is_move, inverse_move-inverse_move, undone}
use Rattle.wh_moves.proofs.laws.inverse.Goals as goal

pub returns-clause-valid : goal.returns-clause-valid
returns-clause-valid c = inverse_is_move

pub returns-clause-back : goal.returns-clause-back
returns-clause-back c = inverse_move-inverse_move

pub returns-clause-undoes : goal.returns-clause-undoes
returns-clause-undoes c = undone
