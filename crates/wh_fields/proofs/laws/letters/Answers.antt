use Rattle.wh_fields.proofs.WordLaws.{reads_letters}
use Rattle.wh_fields.proofs.laws.letters.Goals as goal

pub returns : goal.returns
returns c = reads_letters
