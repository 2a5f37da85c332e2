use Rattle.std.proofs.Common.{[], reverse, length}
use Rattle.std.specs.List.{All}
use Rattle.wh_stab.specs.Numberings.{IsWayFrom, presentation}
use Rattle.wh_stab.proofs.RelatorLists.{IsAdding}
use Rattle.wh_stab.proofs.relators.push_ways.Given as goal

abbrev pub invariant-loop-moves : goal.invariant-loop-moves
invariant-loop-moves l = record {
  adding : IsAdding (presentation [] l.level l.generators) l.at l.fn.ways.items l.ways.items l.fn.relators.items l.relators.items;
  ways : All (IsWayFrom l.level l.at) (reverse l.ways.items);
}

abbrev pub decreases-loop-moves : goal.decreases-loop-moves
decreases-loop-moves l = length l.ways.items
