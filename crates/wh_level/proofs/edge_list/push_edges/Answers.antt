use Rattle.std.proofs.Common.{◌+◌, ◌∙◌, List, length, take, sym, ap, subst, arith}
use Rattle.std.proofs.lemmas.List.{length_push}
use Rattle.wh_level.specs.LevelEdges.{AreFirstEdges}
use Rattle.wh_level.specs.declared.edge_list.Edge.{Edge}
use Rattle.wh_level.proofs.LevelEdges.{tuple_at, moves_of, stands_in_level, first_next, first_row}
use Rattle.wh_level.proofs.Rooms.{rooms_then, rooms_kept, rooms_in_level}
use Rattle.wh_level.proofs.edge_list.push_edges.Goals as goal

pub place_of_image-to-requires-clause-member : goal.place_of_image-to-requires-clause-member
place_of_image-to-requires-clause-member c =
    let at = tuple_at c.args.level.now c.tuples.result.now c.args.from c.index-tuples-from.result c.tuples.ensures.tuples c.requires.within c.index-tuples-from.is in
    stands_in_level c.args.level.now c.args.from c.index-tuples-from.result.plain c.tuples.ensures.closed at

pub place_of_image-to-requires-clause-moves : goal.place_of_image-to-requires-clause-moves
place_of_image-to-requires-clause-moves c =
    let at = tuple_at c.args.level.now c.tuples.result.now c.args.from c.index-tuples-from.result c.tuples.ensures.tuples c.requires.within c.index-tuples-from.is in
    ((moves_of c.requires.moves at).exact c.m-item.result).0 (c.loop-m.m-index, omega arith, sym c.m-item.is)

pub place_of_image-to-requires-clause-rooms : goal.place_of_image-to-requires-clause-rooms
place_of_image-to-requires-clause-rooms c =
    let at = tuple_at c.args.level.now c.tuples.result.now c.args.from c.index-tuples-from.result c.tuples.ensures.tuples c.requires.within c.index-tuples-from.is in
    rooms_kept c.loop-m.invariant.rooms (rooms_in_level c.requires.rooms (stands_in_level c.args.level.now c.args.from c.index-tuples-from.result.plain c.tuples.ensures.closed at))

pub loop-m-preserved : goal.loop-m-preserved
loop-m-preserved c =
    let at = tuple_at c.args.level.now c.tuples.result.now c.args.from c.index-tuples-from.result c.tuples.ensures.tuples c.requires.within c.index-tuples-from.is in
    let e : Edge = record { from = c.args.from; via = c.m-item.result; to = c.place_of_image-to.result } in
    record {
      rooms = rooms_then c.loop-m.invariant.rooms c.place_of_image-to.ensures.rooms;
      count = ap length c.in_ok-push.ensures.items ∙ length_push c.loop-m.edges.items e ∙ omega (arith, c.loop-m.invariant.count);
      edges = subst (λ (es : List Edge). AreFirstEdges c.args.level.now c.args.from (take (c.loop-m.m-index + 1) c.args.moves.now) es) (sym c.in_ok-push.ensures.items)
          (first_next c.args.level.now c.tuples.ensures.closed c.args.from c.index-tuples-from.result.plain at c.args.moves.now (moves_of c.requires.moves at)
          c.loop-m.m-index c.m-item.result c.place_of_image-to.result c.loop-m.edges.items (omega arith) c.m-item.is c.place_of_image-to.ensures.place c.loop-m.invariant.edges);
    }

pub returns-clause-edges : goal.returns-clause-edges
returns-clause-edges c =
    first_row c.args.level.now c.tuples.ensures.closed c.args.from c.requires.moves.tuple c.requires.moves.stands c.args.moves.now c.requires.moves.are
    c.loop-m.m-index c.loop-m.edges.items (omega arith) c.loop-m.invariant.edges
