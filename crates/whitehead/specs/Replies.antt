-- What is replied to the bytes of an input.
use Rattle.std.specs.Prelude.{◌≡◌, ℕ, List, Ok, Err}
use Rattle.wh_words.specs.Tuples.{TupleData}
use Rattle.wh_words.specs.Moves.{Move}
use Rattle.wh_moves.specs.Acts.{IsFirstTooLong}
use Rattle.wh_data.specs.declared.command.Command.{Command}
use Rattle.wh_data.specs.declared.command.Command.TheVariants as commands
use Rattle.wh_data.specs.declared.status.Status.{Status}
use Rattle.wh_data.specs.declared.status.Status.TheVariants.{Refused}
use Rattle.wh_data.specs.declared.answer.Answer as answers
use Rattle.wh_lines.specs.declared.read_error.ReadError.{ReadError}
use Rattle.wh_data.specs.ProblemData.{ProblemData}
use Rattle.wh_data.specs.ProblemData.ProblemData.{straighten}
use Rattle.wh_text.specs.Problems.{problem}
use Rattle.wh_data.specs.AnswerTexts.{answer_text}
use Rattle.wh_data.specs.Statuses.{answer_status}
use Rattle.wh_text.specs.RefusalTexts.{refusal_text, too_long_text}
use Rattle.wh_data.specs.AnswerData.{CertificateData, answer_of}
use Rattle.wh_text.specs.Certificates.{certificate}
use Rattle.wh_cert.specs.declared.checked.Checked.{Checked}
use Rattle.wh_cert.specs.Checks.{Checks}
use Rattle.wh_answer.specs.Answers.{Answers}
use Rattle.whitehead.specs.declared.arguments.Task.{Task}
use Rattle.whitehead.specs.declared.arguments.Task.TheVariants.{Answer, Check}
use Rattle.whitehead.specs.CheckedTexts.{checked_status, checked_text}

-- The reply to these bytes for a task, where levels may have at most so many tuples. To a problem: the first refusal of the text, or that a tuple on the way of a list of moves has too many letters, or else the text and the status of an answer. To a certificate: the first refusal of the text, or else what is found of it.
pub data Replies (limit : ℕ) (bytes : List ℕ) : Task → Status → List ℕ → Type 0 where
  refused : {command : Command} {e : ReadError} → problem command bytes ≡ Err e → Replies limit bytes (Answer command) Refused (refusal_text e)
  answered : {command : Command} {p : ProblemData} (answer : answers.Answer) → problem command bytes ≡ Ok p → Answers limit p answer → Replies limit bytes (Answer command) (answer_status answer) (answer_text (answer_of answer))
  too_long : {t : TupleData} {list : List Move} {place length : ℕ} → problem commands.Straighten bytes ≡ Ok (straighten t list) → IsFirstTooLong t list place length →
      Replies limit bytes (Answer commands.Straighten) Refused (too_long_text place length)
  unread : {e : ReadError} → certificate bytes ≡ Err e → Replies limit bytes Check Refused (refusal_text e)
  checked : {c : CertificateData} (found : Checked) → certificate bytes ≡ Ok c → Checks c found → Replies limit bytes Check (checked_status found) (checked_text found)
