use Rattle.std.proofs.Common.{◌∙◌, ap}
use Rattle.wh_sets.proofs.SetLists.{plains}
use Rattle.wh_sets.proofs.SortedSets.{copy_more}
use Rattle.wh_sets.proofs.tuple_set.TupleSet.copies.Goals as goal

pub loop-place-preserved : goal.loop-place-preserved
loop-place-preserved c =
    ap plains c.in_ok-push.ensures.items
    ∙ copy_more c.loop-place.copies.items c.args.self.now c.loop-place.place c.tuple.result.now c.in_ok-copy.field-0 c.loop-place.invariant c.tuple.ensures c.in_ok-copy.ensures.same
