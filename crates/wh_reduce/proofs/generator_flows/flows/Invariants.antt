use Rattle.wh_reduce.proofs.Flowing.{AreFlowsBelow}
use Rattle.wh_reduce.proofs.generator_flows.flows.Given as goal

abbrev pub invariant-loop-generator : goal.invariant-loop-generator
invariant-loop-generator l = AreFlowsBelow l.tuple.plain l.generator l.flows.items
