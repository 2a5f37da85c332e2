use Rattle.wh_reduce.proofs.Certificates.{flows_flat, flows_unique}
use Rattle.wh_reduce.proofs.laws.certificates.Goals as goal

pub returns-clause-flat : goal.returns-clause-flat
returns-clause-flat c = flows_flat

pub returns-clause-unique : goal.returns-clause-unique
returns-clause-unique c = flows_unique
