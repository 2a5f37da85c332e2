use Rattle.wh_words.proofs.MoveLaws.{image_of_inverse}
use Rattle.wh_words.proofs.laws.images.Goals as goal

pub returns : goal.returns
returns c = image_of_inverse
