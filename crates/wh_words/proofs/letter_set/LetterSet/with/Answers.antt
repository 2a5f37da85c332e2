use Rattle.std.proofs.Common.{w64, ◌∙◌, arith}
use Rattle.std.proofs.lemmas.Nat.Bits.{bit_at_set_same, bit_at_set_other}
use Rattle.wh_words.proofs.letter_set.LetterSet.with.Goals as goal

pub returns-clause-same : goal.returns-clause-same
returns-clause-same c = rw (← c.index.ensures.same) (bit_at_set_same w64 c.self.inside.bits c.index.result (omega arith))

pub returns-clause-others : goal.returns-clause-others
returns-clause-others c = λ i n. (rw (← c.self.view_is) (bit_at_set_other w64 c.self.inside.bits c.index.result (omega arith) i (λ e. n (e ∙ c.index.ensures.same))))
