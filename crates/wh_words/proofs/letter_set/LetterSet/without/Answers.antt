use Rattle.std.proofs.Common.{w64, ◌∙◌, arith}
use Rattle.std.proofs.lemmas.Nat.Bits.{bit_at_clear_same, bit_at_clear_other}
use Rattle.wh_words.proofs.letter_set.LetterSet.without.Goals as goal

pub returns-clause-same : goal.returns-clause-same
returns-clause-same c = rw (← c.index.ensures.same) (bit_at_clear_same w64 c.self.inside.bits c.index.result (omega arith))

pub returns-clause-others : goal.returns-clause-others
returns-clause-others c = λ i l n. rw (← c.self.view_is) (bit_at_clear_other w64 c.self.inside.bits c.index.result (omega arith) i (omega arith) (λ e. n (e ∙ c.index.ensures.same)))
