use Rattle.std.proofs.Common.{arith}
use Rattle.wh_reduce.proofs.Stepped.{flat_more, found_move}
use Rattle.wh_reduce.proofs.step.shorten.Goals as goal

pub loop-generator-preserved : goal.loop-generator-preserved
loop-generator-preserved c =
    flat_more c.graph-net.result c.args.tuple.now.plain c.rank-rank.ensures.roomed.tuple (omega (arith, c.rank-rank.ensures.rank, c.get-generator-end.ensures.greatest)) c.graph-net.ensures
    c.loop-generator.generator c.of_index-letter.result c.of_index-letter.ensures (omega (arith, c.loop-generator-test.true, c.get-generator-end.ensures.same, c.rank-rank.ensures.rank))
    c.loop-generator.invariant c.in_default.ensures

pub returns-in-Some-clause-step : goal.returns-in-Some-clause-step
returns-in-Some-clause-step c =
    found_move c.graph-net.result c.args.tuple.now.plain c.rank-rank.ensures.roomed.tuple (omega (arith, c.rank-rank.ensures.rank, c.get-generator-end.ensures.greatest)) c.graph-net.ensures
    c.loop-generator.generator c.of_index-letter.result c.in-Some.set c.rank-rank.result c.cut.result
    c.of_index-letter.ensures (omega (arith, c.loop-generator-test.true, c.get-generator-end.ensures.same, c.rank-rank.ensures.rank))
    c.loop-generator.invariant c.in-Some.ensures c.rank-rank.ensures.rank c.cut.ensures.none c.cut.ensures.some
