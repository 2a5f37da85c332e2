use Rattle.wh_graph.proofs.EdgeTables.{graph_capacity, graph_degree}
use Rattle.wh_graph.proofs.NetworkCuts.{graph_least_cut, graph_flat}
use Rattle.wh_graph.proofs.laws.networks.Goals as goal

pub returns-clause-capacities : goal.returns-clause-capacities
returns-clause-capacities c = graph_capacity

pub returns-clause-degrees : goal.returns-clause-degrees
returns-clause-degrees c = graph_degree

pub returns-clause-least_cuts : goal.returns-clause-least_cuts
returns-clause-least_cuts c = graph_least_cut

pub returns-clause-flat : goal.returns-clause-flat
returns-clause-flat c = graph_flat
