use Rattle.std.proofs.Common.{arith}
use Rattle.wh_level.proofs.LevelEdges.{first_none, first_all, tuples_counted}
use Rattle.wh_level.proofs.Rooms.{rooms_itself}
use Rattle.wh_level.proofs.edge_list.push_all.Goals as goal

pub loop-from-init : goal.loop-from-init
loop-from-init c = record { rooms = rooms_itself c.args.image.now; edges = first_none c.args.level.now c.args.edges.now.items c.requires.none }

pub returns : goal.returns
returns c =
    first_all c.args.level.now c.loop-from.from c.loop-from.edges.items (omega (arith, tuples_counted c.args.level.now c.tuples-from-end.result.now c.tuples-from-end.ensures.tuples)) c.loop-from.invariant.edges
