use Rattle.wh_answer.proofs.Meaning.{valid_shows}
use Rattle.wh_answer.proofs.laws.valid_certificates.Goals as goal

pub returns : goal.returns
returns c = valid_shows
