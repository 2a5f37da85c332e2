use Rattle.std.proofs.Common.{sym, ◌∙◌}
use Rattle.wh_words.proofs.FreeReduction.{inverse-other}
use Rattle.wh_reduce.proofs.step.least_cut_below.Goals as goal

pub max_flow_uncounted-flow-requires-clause-apart : goal.max_flow_uncounted-flow-requires-clause-apart
max_flow_uncounted-flow-requires-clause-apart c = λ e. inverse-other c.args.letter (sym (e ∙ c.inverse-inverse.ensures))
