use Rattle.wh_fields.proofs.MoveLaws.{first_bad_move}
use Rattle.wh_fields.proofs.laws.first_bad_move.Goals as goal

pub returns : goal.returns
returns c = first_bad_move
