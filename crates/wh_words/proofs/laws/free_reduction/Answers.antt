use Rattle.wh_words.proofs.LawProofs.{free_reduction_remains}
use Rattle.wh_words.proofs.laws.free_reduction.Goals as goal

pub returns : goal.returns
returns c = free_reduction_remains
