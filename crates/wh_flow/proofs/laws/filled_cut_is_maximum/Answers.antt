use Rattle.wh_flow.proofs.Cuts.{filled_maximum}
use Rattle.wh_flow.proofs.laws.filled_cut_is_maximum.Goals as goal

pub returns : goal.returns
returns c = filled_maximum
