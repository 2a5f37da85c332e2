-- What is told means this, of all automorphisms of the free group.
use Rattle.std.specs.Prelude.{◌≡◌, ℕ, List, Some, Ok}
use Rattle.clap.specs.Words.{Text}
use Rattle.wh_words.specs.Tuples.{TupleData}
use Rattle.wh_data.specs.declared.status.Status.{Status}
use Rattle.wh_data.specs.declared.status.Status.TheVariants.{Done, No, Refused, Undecided, ReadFault, WriteFault, OutOfMemory}
use Rattle.wh_data.specs.declared.command.Command.TheVariants as commands
use Rattle.wh_text.specs.Problems.{problem}
use Rattle.wh_data.specs.ProblemData.ProblemData.{decide, stabiliser}
use Rattle.wh_data.specs.AnswerData.{SideData, PartsData, CertificateData}
use Rattle.wh_data.specs.AnswerData.StabVerdictData.{done}
use Rattle.wh_data.specs.AnswerData.AnswerData.{stabiliser as stabiliser_answer}
use Rattle.wh_data.specs.AnswerTexts.{answer_text}
use Rattle.wh_text.specs.Certificates.{certificate as certificate_in}
use Rattle.wh_nielsen.specs.Automorphisms.{IsCarried}
use Rattle.wh_answer.specs.Certified.{Shows}
use Rattle.wh_answer.specs.StabiliserMeanings.{PresentsStabiliser}
use Rattle.whitehead.specs.declared.arguments.Arguments.{Arguments}
use Rattle.whitehead.specs.declared.arguments.Task.TheVariants.{Answer, Check}
use Rattle.whitehead.specs.Asked.{asked}

-- What the status of an answer of `decide` says of the two tuples: after 0 that some automorphism takes the first to the second, and after 1 that none does.
abbrev pub SaysOf : Status → TupleData → TupleData → Type 0
SaysOf Done s t = IsCarried s t
SaysOf No s t = ¬ (IsCarried s t)
SaysOf Refused s t = Unit {0}
SaysOf Undecided s t = Unit {0}
SaysOf ReadFault s t = Unit {0}
SaysOf WriteFault s t = Unit {0}
SaysOf OutOfMemory s t = Unit {0}

-- The text is a certificate, and what it says is so.
pub record IsShown (bytes : List ℕ) : Type 0 where
  pub certificate : CertificateData
  pub read : certificate_in bytes ≡ Ok certificate
  pub shown : Shows certificate.answer

-- The text tells a side and parts that present the stabiliser of the tuple.
pub record TellsStabiliser (t : TupleData) (text : List ℕ) : Type 0 where
  pub side : SideData
  pub parts : PartsData
  pub told : text ≡ answer_text (stabiliser_answer t (done side parts))
  pub presents : PresentsStabiliser t side parts

-- What is told of words and bytes is so: where they ask to decide two tuples, what the status says of these; where they ask for the stabiliser of a tuple and it is made, that the text presents it; and where they ask to check a text and it is told valid, what the text says.
pub record IsTrue (words : List Text) (bytes : List ℕ) (status : Status) (text : List ℕ) : Type 0 where
  pub decided : (a : Arguments) (s t : TupleData) → asked words ≡ Some a → a.task ≡ Answer commands.Decide → problem commands.Decide bytes ≡ Ok (decide s t) → SaysOf status s t
  pub presented : (a : Arguments) (t : TupleData) → asked words ≡ Some a → a.task ≡ Answer commands.Stabiliser → problem commands.Stabiliser bytes ≡ Ok (stabiliser t) → status ≡ Done → TellsStabiliser t text
  pub checked : (a : Arguments) → asked words ≡ Some a → a.task ≡ Check → status ≡ Done → IsShown bytes
