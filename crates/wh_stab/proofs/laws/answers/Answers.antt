use Rattle.wh_stab.proofs.OwnStabilisers.{can_list}
use Rattle.wh_stab.proofs.laws.answers.Goals as goal

pub returns : goal.returns
returns c = can_list
