use Rattle.wh_graph.proofs.Agreement.{flat_by_capacities, steps_agree, traces_agree}
use Rattle.wh_graph.proofs.laws.traces.Goals as goal

pub returns-clause-flat : goal.returns-clause-flat
returns-clause-flat c = flat_by_capacities

pub returns-clause-steps : goal.returns-clause-steps
returns-clause-steps c = steps_agree

pub returns-clause-traces : goal.returns-clause-traces
returns-clause-traces c = traces_agree
