use Rattle.wh_relators.proofs.FamilyRelations.{families_are_relations}
use Rattle.wh_relators.proofs.WaysRound.{instances_lead_round}
use Rattle.wh_relators.proofs.Listed.{instances_are_listed}
use Rattle.wh_relators.proofs.InstanceWeights.{relations_are_light}
use Rattle.wh_relators.proofs.laws.relations_of_families.Goals as goal

pub returns-clause-relations : goal.returns-clause-relations
returns-clause-relations c = families_are_relations

pub returns-clause-instances : goal.returns-clause-instances
returns-clause-instances c = instances_lead_round

pub returns-clause-told : goal.returns-clause-told
returns-clause-told c = instances_are_listed

pub returns-clause-light : goal.returns-clause-light
returns-clause-light c = relations_are_light
