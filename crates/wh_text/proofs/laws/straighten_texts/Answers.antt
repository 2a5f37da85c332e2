use Rattle.wh_text.proofs.ProblemLaws.{reads_straighten_texts}
use Rattle.wh_text.proofs.laws.straighten_texts.Goals as goal

pub returns : goal.returns
returns c = reads_straighten_texts
