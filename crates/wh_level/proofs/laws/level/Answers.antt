use Rattle.wh_level.proofs.LawProofs.{level_reached, level_unique, limit_exact}
use Rattle.wh_level.proofs.laws.level.Goals as goal

pub returns-clause-reached : goal.returns-clause-reached
returns-clause-reached c = level_reached

pub returns-clause-unique : goal.returns-clause-unique
returns-clause-unique c = level_unique

pub returns-clause-limit : goal.returns-clause-limit
returns-clause-limit c = limit_exact
