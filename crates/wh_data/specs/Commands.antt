-- The names of commands, and the headings that answers have.
use Rattle.std.specs.Prelude.{cond, Bool, true, false, ℕ, List, [], ◌∷◌, Option, Some, None, codes}
use Rattle.wh_lines.specs.Lines.{are}
use Rattle.wh_lines.specs.Rows.{Row}
use Rattle.wh_data.specs.declared.command.Command.{Command}
use Rattle.wh_data.specs.declared.command.Command.TheVariants as commands

-- The name of a command, on the command line and in headings.
abbrev pub command_name : Command → List ℕ
command_name commands.Reduce = codes "reduce"
command_name commands.Decide = codes "decide"
command_name commands.Straighten = codes "straighten"
command_name commands.Stabiliser = codes "stabiliser"

-- The command of a name.
abbrev pub command_named : List ℕ → Option Command
command_named name =
    cond (are name (command_name commands.Reduce)) (Some commands.Reduce)
    (cond (are name (command_name commands.Decide)) (Some commands.Decide)
    (cond (are name (command_name commands.Straighten)) (Some commands.Straighten)
    (cond (are name (command_name commands.Stabiliser)) (Some commands.Stabiliser) None)))

-- Answers of the command can be checked: they are certificates.
abbrev pub is_checked : Command → Bool
is_checked commands.Reduce = true
is_checked commands.Decide = true
is_checked commands.Straighten = false
is_checked commands.Stabiliser = true

-- The name is one of a command to come, whose answers aren't certificates.
abbrev pub is_unchecked_name : List ℕ → Bool
is_unchecked_name name = are name (codes "gen")

-- The version of the form of answers.
abbrev pub answer_version : List ℕ
answer_version = codes "1"

-- The heading of the answers of a command.
abbrev pub heading_row : Command → Row
heading_row command = record { keyword = codes "whitehead"; fields = answer_version ∷ command_name command ∷ [] }
