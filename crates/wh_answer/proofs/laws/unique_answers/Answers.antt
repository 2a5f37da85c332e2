use Rattle.wh_answer.proofs.OneAnswer.{answer_one}
use Rattle.wh_answer.proofs.laws.unique_answers.Goals as goal

pub returns : goal.returns
returns c = answer_one
