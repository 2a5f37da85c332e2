use Rattle.whitehead.proofs.Checking.{answers_valid_again}
use Rattle.whitehead.proofs.laws.answers.Goals as goal

pub returns : goal.returns
returns c = answers_valid_again
