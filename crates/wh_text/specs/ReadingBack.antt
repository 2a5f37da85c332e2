-- Answers are read back from their own text.
use Rattle.std.specs.Prelude.{◌≡◌, ◌≤◌, length, Ok}
use Rattle.wh_lines.specs.Laws.{numbers_from}
use Rattle.wh_data.specs.Limits.{most_answer_bytes}
use Rattle.wh_data.specs.AnswerData.{AnswerData}
use Rattle.wh_data.specs.AnswerTexts.{rows_of, answer_text}
use Rattle.wh_data.specs.AnswerParts.{IsCertificate, heads_of, tree_heads_of}
use Rattle.wh_text.specs.Certificates.{certificate}

-- The text of an answer that is a certificate, where it isn't too long, is read back as that answer. No line of it is skipped.
abbrev pub ReadsBack : Type 0
ReadsBack = (a : AnswerData) → IsCertificate a → length (answer_text a) ≤ most_answer_bytes →
    certificate (answer_text a) ≡ Ok (record { answer = a; lines = numbers_from 1 (length (rows_of a)); flow_heads = heads_of a; tree_heads = tree_heads_of a })
