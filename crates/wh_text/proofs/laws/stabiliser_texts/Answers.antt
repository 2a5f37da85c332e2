use Rattle.wh_text.proofs.ProblemLaws.{reads_stabiliser_texts}
use Rattle.wh_text.proofs.laws.stabiliser_texts.Goals as goal

pub returns : goal.returns
returns c = reads_stabiliser_texts
