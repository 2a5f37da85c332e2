use Rattle.std.proofs.Common.{◌-◌, ◌≤◌}
use Rattle.wh_expand.specs.Pieces.{LacksBetween}
use Rattle.wh_expand.proofs.cuts.next_set.Given as goal

abbrev pub invariant-loop-set : goal.invariant-loop-set
invariant-loop-set l = record {
  order : l.start ≤ l.set;
  within : l.set ≤ l.end;
  lacks : LacksBetween l.capacities l.degree l.start l.set;
}

abbrev pub decreases-loop-set : goal.decreases-loop-set
decreases-loop-set l = l.end - l.set
