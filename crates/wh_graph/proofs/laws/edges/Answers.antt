use Rattle.wh_graph.proofs.EdgeCounts.{edges_length, edges_join}
use Rattle.wh_graph.proofs.laws.edges.Goals as goal

pub returns-clause-as_many : goal.returns-clause-as_many
returns-clause-as_many c = edges_length

pub returns-clause-two : goal.returns-clause-two
returns-clause-two c = edges_join
