-- What the code's word of a `verdict` line tells.
use Rattle.wh_text.specs.declared.verdict_reading.Word.{Word}
use Rattle.wh_text.specs.declared.verdict_reading.Word.TheVariants as words
use Rattle.wh_text.specs.Certificates.{VerdictWord}
use Rattle.wh_text.specs.Certificates.VerdictWord.{a_yes, a_no_length, a_no_level}

abbrev pub word_of : Word → VerdictWord
word_of words.Yes = a_yes
word_of words.NoLength = a_no_length
word_of words.NoLevel = a_no_level
