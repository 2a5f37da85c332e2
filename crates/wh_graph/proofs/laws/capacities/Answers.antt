use Rattle.wh_graph.proofs.EdgeCounts.{complement_cap, submodular}
use Rattle.wh_graph.proofs.laws.capacities.Goals as goal

pub returns-clause-complements : goal.returns-clause-complements
returns-clause-complements c = complement_cap

pub returns-clause-submodular : goal.returns-clause-submodular
returns-clause-submodular c = submodular
