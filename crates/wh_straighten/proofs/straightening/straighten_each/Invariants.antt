use Rattle.std.proofs.Common.{◌≡◌, reverse}
use Rattle.wh_words.specs.Action.{act_all}
use Rattle.wh_moves.specs.Acts.{AreRoomy}
use Rattle.wh_straighten.proofs.StraightWays.{IsUnderWay, burden}
use Rattle.wh_straighten.proofs.straightening.straighten_each.Given as goal

abbrev pub invariant-loop-m : goal.invariant-loop-m
invariant-loop-m l = record {
  way : IsUnderWay l.initial.here.plain (reverse l.initial.todo.items) l.done.items (reverse l.todo.items);
  here : l.here.plain ≡ act_all l.initial.here.plain l.done.items;
  rooms : AreRoomy l.initial.here.plain l.here l.spare;
}

abbrev pub decreases-loop-m : goal.decreases-loop-m
decreases-loop-m l = burden l.initial.here.plain l.done.items (reverse l.todo.items)
