use Rattle.wh_moves.proofs.ActedLists.{IsOnTheWay}
use Rattle.wh_moves.proofs.list_action.act_each.Given as goal

abbrev pub invariant-loop-made : goal.invariant-loop-made
invariant-loop-made l = IsOnTheWay l.initial.end.plain l.list l.made l.end l.spare
