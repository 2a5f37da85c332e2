use Rattle.wh_flow.proofs.Cuts.{least_cut_one}
use Rattle.wh_flow.proofs.laws.least_cut_is_unique.Goals as goal

pub returns : goal.returns
returns c = least_cut_one
