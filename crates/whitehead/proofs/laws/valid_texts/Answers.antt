use Rattle.whitehead.proofs.Meaning.{valid_is_shown}
use Rattle.whitehead.proofs.laws.valid_texts.Goals as goal

pub returns : goal.returns
returns c = valid_is_shown
