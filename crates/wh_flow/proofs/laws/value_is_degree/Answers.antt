use Rattle.wh_flow.proofs.Cuts.{value_degree}
use Rattle.wh_flow.proofs.laws.value_is_degree.Goals as goal

pub returns : goal.returns
returns c = value_degree
