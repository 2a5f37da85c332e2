-- The law of answers.
use Rattle.std.specs.Prelude.{◌≡◌, length}
use Rattle.wh_data.specs.AnswerData.{AnswerData}
use Rattle.wh_data.specs.AnswerTexts.{rows_of}
use Rattle.wh_data.specs.Numberings.{IsAnswerOfOneRank, answer_lines}

-- Where the parts of an answer fit together, its rows are as many as its lines are said to be.
abbrev pub CountsRows : Type 0
CountsRows = (a : AnswerData) → IsAnswerOfOneRank a → length (rows_of a) ≡ answer_lines a
