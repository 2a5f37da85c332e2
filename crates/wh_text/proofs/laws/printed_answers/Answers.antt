use Rattle.wh_text.proofs.ReadBack.{reads_back}
use Rattle.wh_text.proofs.laws.printed_answers.Goals as goal

pub returns : goal.returns
returns c = reads_back
