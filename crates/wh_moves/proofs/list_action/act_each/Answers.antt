use Rattle.std.proofs.Common.{◌+◌, ◌∙◌, sym, subst, arith}
use Rattle.wh_moves.proofs.ActedLists.{IsOnTheWay, way_step, way_fault}
use Rattle.wh_moves.proofs.list_action.act_each.Goals as goal

pub returns-then-length-gt-MOST_LETTERS-clause-fault : goal.returns-then-length-gt-MOST_LETTERS-clause-fault
returns-then-length-gt-MOST_LETTERS-clause-fault c =
    way_fault c.args.end.now.plain c.args.list.now c.loop-made.made c.acted_length-length.result c.loop-made.end c.loop-made.spare c.index-list-made.result
    c.loop-made.invariant (omega arith) c.index-list-made.is c.acted_length-length.ensures (omega arith)

pub loop-made-preserved : goal.loop-made-preserved
loop-made-preserved c =
    subst (IsOnTheWay c.args.end.now.plain c.args.list.now (c.loop-made.made + 1) c.swap.new.x) (sym c.swap.ensures.y_after)
    (way_step c.args.end.now.plain c.args.list.now c.loop-made.made c.loop-made.end c.loop-made.spare c.swap.new.x c.index-list-made.result
    c.loop-made.invariant (omega arith) c.index-list-made.is (omega (arith, c.acted_length-length.ensures)) (c.swap.ensures.x_after ∙ c.act_into.ensures))
