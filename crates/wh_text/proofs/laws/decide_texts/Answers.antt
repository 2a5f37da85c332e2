use Rattle.wh_text.proofs.ProblemLaws.{reads_decide_texts}
use Rattle.wh_text.proofs.laws.decide_texts.Goals as goal

pub returns : goal.returns
returns c = reads_decide_texts
