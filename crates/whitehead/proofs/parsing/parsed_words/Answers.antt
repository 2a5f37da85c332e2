use Rattle.std.proofs.Common.{ap, subst, map, ◌∙◌}
use Rattle.std.proofs.lemmas.Result.{IfOk-weaker}
use Rattle.clap.specs.Words.{App, FailsBy, fault_of, matches_of, is_simple, is_simple_and_free}
use Rattle.whitehead.proofs.Simple.{program_simple, program_free}
use Rattle.whitehead.proofs.parsing.parsed_words.Goals as goal

pub returns-clause-fails : goal.returns-clause-fails
returns-clause-fails c =
    subst (λ (a : App). FailsBy (fault_of a (map (λ w. w.now) c.args.words.now)) c.try_get_matches_from.result) c.in_ok-whole_command.ensures
    (c.try_get_matches_from.ensures.kinds (ap is_simple_and_free c.in_ok-whole_command.ensures ∙ program_free))

pub returns-clause-matches : goal.returns-clause-matches
returns-clause-matches c =
    IfOk-weaker c.try_get_matches_from.result _ _
    (λ m h. (h (ap is_simple c.in_ok-whole_command.ensures ∙ program_simple)).0 ∙ ap (λ (a : App). matches_of a (map (λ w. w.now) c.args.words.now)) c.in_ok-whole_command.ensures)
    c.try_get_matches_from.ensures.matches
