use Rattle.std.proofs.Common.{◌≡◌, ◌+◌, sym, ◌∙◌, subst, arith}
use Rattle.wh_reduce.proofs.Flowing.{AreFlowsBelow, flat_network, flow_of_letter, flows_more}
use Rattle.wh_reduce.proofs.generator_flows.flows.Goals as goal

pub flow_of-requires-clause-flat : goal.flow_of-requires-clause-flat
flow_of-requires-clause-flat c =
    flat_network c.graph-net.result c.args.tuple.now.plain c.rank.ensures.roomed.tuple (omega (arith, c.rank.ensures.rank, c.get-rank.ensures.greatest)) c.graph-net.ensures
    c.of_index.result c.loop-generator.generator c.of_index.ensures (omega (arith, c.loop-generator-test.true, c.get-rank.ensures.same, c.rank.ensures.rank)) c.requires

pub loop-generator-preserved : goal.loop-generator-preserved
loop-generator-preserved c =
    subst (AreFlowsBelow c.args.tuple.now.plain (c.loop-generator.generator + 1)) (sym c.in_ok-push.ensures.items)
    (flows_more c.args.tuple.now.plain c.loop-generator.generator c.of_index.result c.loop-generator.flows.items c.flow_of.result c.of_index.ensures c.loop-generator.invariant c.flow_of.ensures.table
    (flow_of_letter c.graph-net.result c.args.tuple.now.plain c.rank.ensures.roomed.tuple (omega (arith, c.rank.ensures.rank, c.get-rank.ensures.greatest)) c.graph-net.ensures
    c.flow_of.result c.of_index.result (omega (arith, c.of_index.ensures, c.loop-generator-test.true, c.get-rank.ensures.greatest, c.get-rank.ensures.same))
    c.flow_of.ensures.first c.flow_of.ensures.value))

pub returns-clause-flows : goal.returns-clause-flows
returns-clause-flows c =
    let all : c.loop-generator.generator ≡ c.args.tuple.now.plain.rank = omega (arith, c.loop-generator-test.false, c.loop-generator.auto.generator-end, c.get-rank.ensures.same, c.rank.ensures.rank) in
    record {
      count = c.loop-generator.invariant.count ∙ all;
      tables = c.loop-generator.invariant.tables;
      each = λ g l. c.loop-generator.invariant.each g (omega (arith, l, all));
    }
