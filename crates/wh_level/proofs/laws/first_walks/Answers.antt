use Rattle.wh_level.proofs.LawProofs.{first_walk_unique}
use Rattle.wh_level.proofs.OneLevel.{closed_level_unique}
use Rattle.wh_level.proofs.laws.first_walks.Goals as goal

pub returns-clause-unique : goal.returns-clause-unique
returns-clause-unique c = first_walk_unique

pub returns-clause-level : goal.returns-clause-level
returns-clause-level c = closed_level_unique
