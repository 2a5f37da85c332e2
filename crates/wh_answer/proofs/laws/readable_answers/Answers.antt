use Rattle.wh_answer.proofs.Readable.{answers_readable}
use Rattle.wh_answer.proofs.laws.readable_answers.Goals as goal

pub returns : goal.returns
returns c = answers_readable
