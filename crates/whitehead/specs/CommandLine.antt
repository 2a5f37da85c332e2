-- The command line, for the rules of the parser: one COMMAND, and the options --limit and --workers with one value each.
use Rattle.std.specs.Prelude.{Some, true, codes}
use Rattle.clap.specs.Words.{App, Rule, Text, new_app, new_rule, with_rule}
use Rattle.clap.specs.Simple.{on_top}
use Rattle.clap.specs.declared.builder.ArgAction.TheVariants.{Set}

-- The command, which has to stand.
abbrev pub command_rule : Rule
command_rule = record (new_rule (codes "COMMAND")) { required = true; action = Some Set }

-- An option with one value.
abbrev pub option_rule : Text → Rule
option_rule name = record (new_rule name) { long = Some name; action = Some Set }

-- No flag asks for help or for the version, and the words don't begin with the name of the program.
abbrev pub bare_program : App
bare_program = on_top (λ s. record s { no_binary_name = true; disable_help_flag = true; disable_version_flag = true }) (new_app (codes "whitehead"))

abbrev pub program : App
program = with_rule (with_rule (with_rule bare_program command_rule) (option_rule (codes "limit"))) (option_rule (codes "workers"))
