use Rattle.wh_fields.proofs.StabiliserLaws.{reads_relators}
use Rattle.wh_fields.proofs.laws.relators.Goals as goal

pub returns : goal.returns
returns c = reads_relators
