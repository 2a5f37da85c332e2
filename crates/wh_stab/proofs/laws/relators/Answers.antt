use Rattle.wh_stab.proofs.Words.{tell_relators, numbers_unique}
use Rattle.wh_stab.proofs.RelatorWords.{relators_are_relations, relators_unique}
use Rattle.wh_stab.proofs.laws.relators.Goals as goal

pub returns-clause-tell : goal.returns-clause-tell
returns-clause-tell c = tell_relators

pub returns-clause-relations : goal.returns-clause-relations
returns-clause-relations c = relators_are_relations

pub returns-clause-numbers : goal.returns-clause-numbers
returns-clause-numbers c = numbers_unique

pub returns-clause-unique : goal.returns-clause-unique
returns-clause-unique c = relators_unique
