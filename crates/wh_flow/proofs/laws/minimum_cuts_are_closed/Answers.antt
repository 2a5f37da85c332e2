use Rattle.wh_flow.proofs.Cuts.{minimum_closed}
use Rattle.wh_flow.proofs.laws.minimum_cuts_are_closed.Goals as goal

pub returns : goal.returns
returns c = minimum_closed
