use Rattle.std.proofs.Common.{[], ◌≤◌, length}
use Rattle.wh_level.specs.PlacedTuples.{KeepsRooms}
use Rattle.wh_level.specs.LevelEdges.{AreFirstEdges}
use Rattle.wh_level.proofs.edge_list.push_few.Given as goal

abbrev pub invariant-loop-from : goal.invariant-loop-from
invariant-loop-from l = record {
  rooms : KeepsRooms l.fn.image l.image;
  within : length l.edges.items ≤ l.limit;
  edges : AreFirstEdges l.level l.from [] l.edges.items;
}
