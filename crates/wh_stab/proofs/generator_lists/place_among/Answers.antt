use Rattle.std.proofs.Common.{arith}
use Rattle.wh_stab.proofs.ListedGenerators.{same_told, other_told, lacks_more, lacks_all, plain_there}
use Rattle.wh_stab.proofs.generator_lists.place_among.Goals as goal

pub returns-then-eq : goal.returns-then-eq
returns-then-eq c = plain_there c.args.tuples.now c.loop-place.place c.args.tuple.now.plain c.index-tuples-place.result (omega arith) c.index-tuples-place.is (same_told c.index-tuples-place.result c.args.tuple.now c.if-eq.ensures)

pub loop-place-preserved : goal.loop-place-preserved
loop-place-preserved c = lacks_more c.args.tuples.now c.loop-place.place c.args.tuple.now.plain c.index-tuples-place.result (omega arith) c.index-tuples-place.is (other_told c.index-tuples-place.result c.args.tuple.now c.if-eq.ensures) c.loop-place.invariant

pub returns : goal.returns
returns c = lacks_all c.args.tuples.now c.loop-place.place c.args.tuple.now.plain (omega arith) c.loop-place.invariant
