use Rattle.wh_words.proofs.LawProofs.{cyclic_reduction_remains}
use Rattle.wh_words.proofs.laws.cyclic_reduction.Goals as goal

pub returns : goal.returns
returns c = cyclic_reduction_remains
