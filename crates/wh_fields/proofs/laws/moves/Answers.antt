use Rattle.wh_fields.proofs.MoveLaws.{reads_moves}
use Rattle.wh_fields.proofs.laws.moves.Goals as goal

pub returns : goal.returns
returns c = reads_moves
