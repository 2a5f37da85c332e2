use Rattle.whitehead.proofs.Meaning.{told_is_true}
use Rattle.whitehead.proofs.laws.meaning.Goals as goal

pub returns : goal.returns
returns c = told_is_true
