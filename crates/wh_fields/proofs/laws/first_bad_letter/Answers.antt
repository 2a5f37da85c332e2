use Rattle.wh_fields.proofs.WordLaws.{first_bad_letter}
use Rattle.wh_fields.proofs.laws.first_bad_letter.Goals as goal

pub returns : goal.returns
returns c = first_bad_letter
