use Rattle.std.proofs.Common.{◌≡◌, ◌-◌, ◌<◌, ◌≤◌, get_or}
use Rattle.wh_words.specs.Moves.Kind.{cut}
use Rattle.wh_expand.specs.FirstLevelMoves.{AreLevelMovesBefore}
use Rattle.wh_expand.proofs.cuts.push_run.Given as goal

abbrev pub invariant-loop-set : goal.invariant-loop-set
invariant-loop-set l = record {
  within : l.set ≤ l.end;
  found : l.set < l.end → get_or l.capacities l.set 0 ≡ l.degree;
  before : AreLevelMovesBefore l.tuple.plain (cut l.mult l.set) l.moves.items;
}

abbrev pub decreases-loop-set : goal.decreases-loop-set
decreases-loop-set l = l.end - l.set
