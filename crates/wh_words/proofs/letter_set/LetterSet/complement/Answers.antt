use Rattle.std.proofs.Common.{◌*◌, arith}
use Rattle.wh_words.proofs.Masks.{complement_bit, complement_lt}
use Rattle.wh_words.proofs.letter_set.LetterSet.complement.Goals as goal

pub returns-clause-within : goal.returns-clause-within
returns-clause-within c = λ i l. rw (← c.self.view_is) (complement_bit c.self.inside.bits (2 * c.get.result) i (omega arith) (omega arith) (omega arith))

pub returns-clause-below : goal.returns-clause-below
returns-clause-below c = rw (← c.get.ensures.same) (complement_lt _ (2 * c.get.result) (omega arith))
