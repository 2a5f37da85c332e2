-- What the words of the command line ask.
use Rattle.std.specs.Prelude.{◌≡◌, ℕ, leb, ◌&&◌, cond, List, [], ◌∷◌, Option, Some, None, Result, Ok, Err, codes}
use Rattle.clap.specs.Words.{Row, Text, Kinds, first_of, fault_of, matches_of}
use Rattle.wh_words.specs.Limits.{most_level_tuples}
use Rattle.wh_data.specs.declared.command.Command.{Command}
use Rattle.wh_data.specs.Commands.{command_named}
use Rattle.wh_lines.specs.Numbers.{number}
use Rattle.wh_lines.specs.Lines.{are}
use Rattle.whitehead.specs.Limits.{standing_limit, most_workers, standing_workers}
use Rattle.whitehead.specs.CommandLine.{program}
use Rattle.whitehead.specs.declared.arguments.Task.{Task}
use Rattle.whitehead.specs.declared.arguments.Task.TheVariants as tasks
use Rattle.whitehead.specs.declared.arguments.Arguments.{Arguments}
use Rattle.whitehead.specs.declared.arguments.WordsError.{WordsError}
use Rattle.whitehead.specs.declared.arguments.WordsError.TheVariants as errors

-- The task of a name: to answer problems of the command that has it, or to check.
abbrev pub task_named : Text → Option Command → Option Task
task_named t (Some command) = Some (tasks.Answer command)
task_named t None = cond (are t (codes "check")) (Some tasks.Check) None

abbrev pub task_of : Text → Option Task
task_of t = task_named t (command_named t)

abbrev pub task_in : Option Text → Option Task
task_in None = None
task_in (Some t) = task_of t

abbrev pub in_range : ℕ → ℕ → Option ℕ → Option ℕ
in_range least most None = None
in_range least most (Some n) = cond (leb least n && leb n most) (Some n) None

-- An option's text is a canonical number of its range. Where the option isn't given, it is the standing number.
abbrev pub option_in : ℕ → ℕ → ℕ → Option Text → Option ℕ
option_in least most standing None = Some standing
option_in least most standing (Some t) = in_range least most (number t)

abbrev pub together : Option Task → Option ℕ → Option ℕ → Option Arguments
together None limit workers = None
together (Some task) None workers = None
together (Some task) (Some limit) None = None
together (Some task) (Some limit) (Some workers) = Some (record { task = task; limit = limit; workers = workers })

-- What the three texts ask. The limit and the number of workers are 1 at least.
abbrev pub asked_by : Option Text → Option Text → Option Text → Option Arguments
asked_by name limit workers = together (task_in name) (option_in 1 most_level_tuples standing_limit limit) (option_in 1 most_workers standing_workers workers)

abbrev pub asked_unless : Kinds → List Row → Option Arguments
asked_unless [] rows = asked_by (first_of (codes "COMMAND") rows) (first_of (codes "limit") rows) (first_of (codes "workers") rows)
asked_unless (k ∷ ks) rows = None

-- What the words ask. Nothing, where the parser finds a fault, where the command is another word, or where an option's text is no number of its range.
unfoldable pub asked : List Text → Option Arguments
asked words = asked_unless (fault_of program words) (matches_of program words)

-- The words are refused exactly where nothing is asked. Want of memory tells nothing of them.
abbrev pub Tells : Result Arguments WordsError → Option Arguments → Type 0
Tells (Ok a) asked = asked ≡ Some a
Tells (Err errors.Refused) asked = asked ≡ None
Tells (Err errors.OutOfMemory) asked = Unit {0}
