-- What a run of the program does.
use Rattle.std.specs.Prelude.{◌≡◌, ℕ, ◌⊎◌, List, [], None, Some}
use Rattle.std.specs.declared.option.Option.{Option}
use Rattle.clap.specs.Words.{Text}
use Rattle.wh_io.specs.Device.{Consumed, next_count}
use Rattle.wh_data.specs.declared.status.Status.{Status}
use Rattle.wh_data.specs.declared.status.Status.TheVariants.{Done, No, Refused, Undecided, ReadFault, WriteFault, OutOfMemory}
use Rattle.wh_data.specs.Limits.{most_problem_bytes, most_answer_bytes}
use Rattle.wh_text.specs.RefusalTexts.{refused_words_text}
use Rattle.whitehead.specs.declared.arguments.Task.{Task}
use Rattle.whitehead.specs.declared.arguments.Task.TheVariants.{Answer, Check}
use Rattle.whitehead.specs.declared.arguments.Arguments.{Arguments}
use Rattle.whitehead.specs.Asked.{asked}
use Rattle.whitehead.specs.Replies.{Replies}
use Rattle.whitehead.specs.Meanings.{IsTrue}
use Rattle.whitehead.specs.Streams.{IsWholeUpTo, IsPartRead, IsWritten, IsPartWritten}

-- How many bytes the input of a task may have.
abbrev pub most_input : Task → ℕ
most_input (Answer command) = most_problem_bytes
most_input Check = most_answer_bytes

-- What is told for these words and these bytes: a status and a text. Where the words ask nothing, they are refused, and no byte counts.
pub data Told (words : List Text) (bytes : List ℕ) : Status → List ℕ → Type 0 where
  words_refused : asked words ≡ None → Told words bytes Refused refused_words_text
  replied : {a : Arguments} {status : Status} {text : List ℕ} → asked words ≡ Some a → Replies a.limit bytes a.task status text → Told words bytes status text

-- The bytes that are read: none where the words are refused, and else all, or one more than the task allows.
abbrev pub IsInput : List Text → List ℕ → Option (List ℕ) → Type 0
IsInput words bytes left = ((asked words ≡ None) × (bytes ≡ [])) ⊎ ((a : Arguments) × (asked words ≡ Some a) × IsWholeUpTo (most_input a.task) bytes left)

module _ (words : List Text) (left left' held held' sent' : Option (List ℕ)) where
  -- A whole text is told, for the bytes that were read, and what it says is so.
  pub record HasTold (status : Status) : Type 0 where
    pub bytes : List ℕ
    pub text : List ℕ
    pub read : Consumed left left' bytes
    pub whole : IsInput words bytes left'
    pub written : IsWritten held held' sent' text
    pub told : Told words bytes status text
    pub so : IsTrue words bytes status text

  -- The sink failed after a prefix of a text that would have been told.
  pub record HasToldPart : Type 0 where
    pub bytes : List ℕ
    pub text : List ℕ
    pub status : Status
    pub read : Consumed left left' bytes
    pub whole : IsInput words bytes left'
    pub written : IsPartWritten held held' text
    pub told : Told words bytes status text

  -- The source failed after a prefix of its bytes, of one more than the task allows at most.
  abbrev pub HasReadPart : Type 0
  HasReadPart = (a : Arguments) × (asked words ≡ Some a) × IsPartRead (most_input a.task) left left'

  -- What a run did, by its status.
  abbrev pub RanTo : Status → Type 0
  RanTo Done = HasTold Done
  RanTo No = HasTold No
  RanTo Refused = HasTold Refused
  RanTo Undecided = HasTold Undecided
  RanTo ReadFault = HasReadPart
  RanTo WriteFault = HasToldPart
  RanTo OutOfMemory = IsPartRead most_answer_bytes left left'

-- The count of the source's faults after a run: the next where the run ends by a fault of the source, and else the same.
abbrev pub source_count : ℕ → Status → ℕ
source_count count ReadFault = next_count count
source_count count status = count

-- The count of the sink's faults after a run: the next where the run ends by a fault of the sink, and else the same.
abbrev pub sink_count : ℕ → Status → ℕ
sink_count count WriteFault = next_count count
sink_count count status = count

-- The run ends before it writes.
abbrev pub IsSilent : Status → Type 0
IsSilent ReadFault = Unit {0}
IsSilent OutOfMemory = Unit {0}
IsSilent status = ⊥
