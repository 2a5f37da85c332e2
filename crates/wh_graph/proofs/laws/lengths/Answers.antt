use Rattle.wh_graph.proofs.Lengths.{length_law, cuts_shorten, swaps_keep, inversions_keep}
use Rattle.wh_graph.proofs.laws.lengths.Goals as goal

pub returns-clause-cuts : goal.returns-clause-cuts
returns-clause-cuts c = length_law

pub returns-clause-shorten : goal.returns-clause-shorten
returns-clause-shorten c = cuts_shorten

pub returns-clause-swaps : goal.returns-clause-swaps
returns-clause-swaps c = swaps_keep

pub returns-clause-inversions : goal.returns-clause-inversions
returns-clause-inversions c = inversions_keep
