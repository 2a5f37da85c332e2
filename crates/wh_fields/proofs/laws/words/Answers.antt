use Rattle.wh_fields.proofs.WordLaws.{reads_words}
use Rattle.wh_fields.proofs.laws.words.Goals as goal

pub returns : goal.returns
returns c = reads_words
