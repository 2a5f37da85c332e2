use Rattle.wh_flow.proofs.FirstFlows.{first-one}
use Rattle.wh_flow.proofs.laws.first_flow_is_unique.Goals as goal

pub returns : goal.returns
returns c = first-one
