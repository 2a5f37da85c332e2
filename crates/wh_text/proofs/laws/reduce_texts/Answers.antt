use Rattle.wh_text.proofs.ProblemLaws.{reads_reduce_texts}
use Rattle.wh_text.proofs.laws.reduce_texts.Goals as goal

pub returns : goal.returns
returns c = reads_reduce_texts
