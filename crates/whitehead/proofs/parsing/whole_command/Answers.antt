use Rattle.std.proofs.Common.{ap₂, ◌∙◌}
use Rattle.std.proofs.lemmas.Result.{IfOk-weaker}
use Rattle.clap.specs.Words.{with_rule}
use Rattle.whitehead.proofs.parsing.whole_command.Goals as goal

pub returns : goal.returns
returns c =
    let one_is = c.in_ok-command.ensures.shape c.command_word.ensures.local ∙ ap₂ with_rule c.bare_command.ensures c.command_word.ensures.rule in
    let two_is = c.in_ok-command-2.ensures.shape c.option.ensures.local ∙ ap₂ with_rule one_is c.option.ensures.rule in
    IfOk-weaker c.arg-3.result _ _ (λ command h. h.shape c.option-2.ensures.local ∙ ap₂ with_rule two_is c.option-2.ensures.rule) c.arg-3.ensures
