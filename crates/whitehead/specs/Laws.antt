-- What holds of all runs, as statements that contracts name.
use Rattle.std.specs.Prelude.{◌≡◌, ◌⊎◌, ℕ, true, List, Some, codes}
use Rattle.clap.specs.Words.{Text}
use Rattle.wh_data.specs.declared.status.Status.{Status}
use Rattle.wh_data.specs.declared.status.Status.TheVariants.{Done, No}
use Rattle.wh_data.specs.declared.command.Command.{Command}
use Rattle.wh_data.specs.declared.command.Command.TheVariants as commands
use Rattle.wh_data.specs.Commands.{is_checked}
use Rattle.whitehead.specs.declared.arguments.Arguments.{Arguments}
use Rattle.whitehead.specs.declared.arguments.Task.{Task}
use Rattle.whitehead.specs.declared.arguments.Task.TheVariants.{Answer, Check}
use Rattle.whitehead.specs.Asked.{asked}
use Rattle.whitehead.specs.Meanings.{IsShown, IsTrue}
use Rattle.whitehead.specs.Outcome.{Told}

-- The words ask for this task.
abbrev pub AskFor : Task → List Text → Type 0
AskFor task words = (a : Arguments) × (asked words ≡ Some a) × (a.task ≡ task)

-- They ask to straighten a list of moves.
abbrev pub AskToStraighten : List Text → Type 0
AskToStraighten words = AskFor (Answer commands.Straighten) words

-- They ask to answer a problem of a command whose answers can be checked.
abbrev pub AskAnswer : List Text → Type 0
AskAnswer words = (command : Command) × (is_checked command ≡ true) × AskFor (Answer command) words

-- They ask to check an answer.
abbrev pub AskCheck : List Text → Type 0
AskCheck words = AskFor Check words

-- These words and these bytes are told one status, and one text too, unless a list is to be straightened.
abbrev pub ToldIsUnique : Type 0
ToldIsUnique = (words : List Text) (bytes : List ℕ) (status other : Status) (text another : List ℕ) → Told words bytes status text → Told words bytes other another →
    (status ≡ other) × (¬ (AskToStraighten words) → text ≡ another)

-- Whatever is told of a problem whose answers can be checked, with a status of 0 or 1, is told valid when it is checked.
abbrev pub AnswersAreValid : Type 0
AnswersAreValid = (words others : List Text) (bytes text : List ℕ) (status : Status) → AskAnswer words → AskCheck others → (status ≡ Done) ⊎ (status ≡ No) → Told words bytes status text → Told others text Done (codes "valid\n")

-- Whatever is told is so.
abbrev pub ToldIsTrue : Type 0
ToldIsTrue = (words : List Text) (bytes text : List ℕ) (status : Status) → Told words bytes status text → IsTrue words bytes status text

-- Whatever text is told valid, whoever wrote it, shows what it says.
abbrev pub ValidIsShown : Type 0
ValidIsShown = (words : List Text) (bytes : List ℕ) → AskCheck words → Told words bytes Done (codes "valid\n") → IsShown bytes
