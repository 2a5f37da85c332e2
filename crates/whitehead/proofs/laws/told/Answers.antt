use Rattle.whitehead.proofs.OneText.{told_one}
use Rattle.whitehead.proofs.laws.told.Goals as goal

pub returns : goal.returns
returns c = told_one
