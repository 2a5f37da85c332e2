use Rattle.wh_lines.proofs.FieldLaws.{reads_fields}
use Rattle.wh_lines.proofs.laws.fields.Goals as goal

pub returns : goal.returns
returns c = reads_fields
