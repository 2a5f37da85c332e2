use Rattle.wh_fields.proofs.StabiliserLaws.{reads_generators}
use Rattle.wh_fields.proofs.laws.generators.Goals as goal

pub returns : goal.returns
returns c = reads_generators
