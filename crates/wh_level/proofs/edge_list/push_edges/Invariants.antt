use Rattle.std.proofs.Common.{◌≡◌, ◌+◌, length, take}
use Rattle.wh_level.specs.PlacedTuples.{KeepsRooms}
use Rattle.wh_level.specs.LevelEdges.{AreFirstEdges}
use Rattle.wh_level.proofs.edge_list.push_edges.Given as goal

abbrev pub invariant-loop-m : goal.invariant-loop-m
invariant-loop-m l = record {
  rooms : KeepsRooms l.fn.image l.image;
  count : length l.edges.items ≡ length l.fn.edges.items + l.m-index;
  edges : AreFirstEdges l.level l.from (take l.m-index l.moves) l.edges.items;
}
