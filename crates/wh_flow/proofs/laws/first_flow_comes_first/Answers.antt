use Rattle.wh_flow.proofs.FirstFlows.{first-before}
use Rattle.wh_flow.proofs.laws.first_flow_comes_first.Goals as goal

pub returns : goal.returns
returns c = first-before
