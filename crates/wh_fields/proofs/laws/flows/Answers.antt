use Rattle.wh_fields.proofs.FlowLaws.{reads_flows}
use Rattle.wh_fields.proofs.laws.flows.Goals as goal

pub returns : goal.returns
returns c = reads_flows
