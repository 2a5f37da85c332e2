use Rattle.wh_graph.proofs.Degrees.{degree_counts, inverse_degree, singleton_degree}
use Rattle.wh_graph.proofs.laws.degrees.Goals as goal

pub returns-clause-letters : goal.returns-clause-letters
returns-clause-letters c = degree_counts

pub returns-clause-inverses : goal.returns-clause-inverses
returns-clause-inverses c = inverse_degree

pub returns-clause-singleton : goal.returns-clause-singleton
returns-clause-singleton c = singleton_degree
