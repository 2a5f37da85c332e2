use Rattle.wh_words.proofs.LawProofs.{least, turned, conjugated}
use Rattle.wh_words.proofs.laws.cyclic_word.Goals as goal

pub returns-clause-first : goal.returns-clause-first
returns-clause-first c = least

pub returns-clause-turned : goal.returns-clause-turned
returns-clause-turned c = turned

pub returns-clause-conjugated : goal.returns-clause-conjugated
returns-clause-conjugated c = conjugated
