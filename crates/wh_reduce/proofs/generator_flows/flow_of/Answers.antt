use Rattle.std.proofs.Common.{sym, ◌∙◌, subst}
use Rattle.wh_words.specs.Flows.{IsFlow, FillsLeastCut}
use Rattle.wh_flow.specs.Tables.{cell}
use Rattle.wh_words.proofs.FreeReduction.{inverse-other}
use Rattle.wh_reduce.proofs.Flowing.{flat_value}
use Rattle.wh_reduce.proofs.generator_flows.flow_of.Goals as goal

pub max_flow_uncounted-flow-requires-clause-apart : goal.max_flow_uncounted-flow-requires-clause-apart
max_flow_uncounted-flow-requires-clause-apart c = λ e. inverse-other c.args.letter (sym (e ∙ c.inverse-inverse.ensures))

pub returns-clause-value : goal.returns-clause-value
returns-clause-value c =
    flat_value c.args.net.now c.max_flow_uncounted-flow.result c.least_flow.result c.args.letter c.requires.index c.requires.flat
    (subst (IsFlow (cell c.args.net.now.cells) (cell c.max_flow_uncounted-flow.result) c.args.letter) c.inverse-inverse.ensures c.max_flow_uncounted-flow.ensures.flow)
    (subst (FillsLeastCut (cell c.args.net.now.cells) (cell c.max_flow_uncounted-flow.result) c.args.letter) c.inverse-inverse.ensures c.max_flow_uncounted-flow.ensures.cut)
    c.least_flow.ensures.same
