use Rattle.wh_text.proofs.BadByteLaws.{first_bad_byte}
use Rattle.wh_text.proofs.laws.first_bad_byte.Goals as goal

pub returns : goal.returns
returns c = first_bad_byte
