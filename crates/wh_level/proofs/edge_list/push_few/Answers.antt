use Rattle.std.proofs.Common.{ap, length, arith}
use Rattle.wh_level.proofs.LevelEdges.{first_none, first_all, more_edges, tuples_counted}
use Rattle.wh_level.proofs.Rooms.{rooms_itself}
use Rattle.wh_level.proofs.edge_list.push_few.Goals as goal

pub loop-from-init : goal.loop-from-init
loop-from-init c = record {
  rooms = rooms_itself c.args.image.now;
  within = omega (arith, ap length c.requires.none);
  edges = first_none c.args.level.now c.args.edges.now.items c.requires.none;
}

pub returns-then-len-limit : goal.returns-then-len-limit
returns-then-len-limit c =
    more_edges c.args.level.now c.tuples-from-end.ensures.closed c.loop-from.from c.in_ok-moves.ensures.tuple c.in_ok-moves.ensures.stands c.in_ok-moves.moves.items c.in_ok-moves.ensures.are
    c.loop-from.edges.items c.args.limit c.loop-from.invariant.edges (omega arith)

pub returns : goal.returns
returns c = (
  first_all c.args.level.now c.loop-from.from c.loop-from.edges.items (omega (arith, tuples_counted c.args.level.now c.tuples-from-end.result.now c.tuples-from-end.ensures.tuples)) c.loop-from.invariant.edges,
  c.loop-from.invariant.within,
)
