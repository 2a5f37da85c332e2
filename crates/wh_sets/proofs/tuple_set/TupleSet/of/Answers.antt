use Rattle.std.proofs.Common.{rules}
use Rattle.wh_sets.proofs.Additions.{added_start, added_more, added_all}
use Rattle.wh_words.specs.Tuples.{TupleData, Tuple}
use Rattle.wh_sets.proofs.tuple_set.TupleSet.of.Goals as goal

abbrev plain : Tuple → TupleData
plain t = t.plain

pub loop-tuple-init : goal.loop-tuple-init
loop-tuple-init c = added_start plain c.args.tuples.now c.new-set.result (search rules)

pub loop-tuple-preserved : goal.loop-tuple-preserved
loop-tuple-preserved c =
    added_more plain c.args.tuples.now c.loop-tuple.tuple-index c.tuple-item.result c.loop-tuple.set c.add.new.self (search rules) (search rules) c.loop-tuple.invariant c.in_ok-add.ensures.added

pub returns : goal.returns
returns c = added_all plain c.args.tuples.now c.loop-tuple.tuple-index c.loop-tuple.set (search rules) c.loop-tuple.invariant
