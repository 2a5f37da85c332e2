use Rattle.std.proofs.Common.{length, refl, ap, arith}
use Rattle.std.proofs.lemmas.Option.{slice_get_within}
use Rattle.wh_words.specs.Action.{act}
use Rattle.wh_words.specs.Levels.{IsLevelMove}
use Rattle.wh_expand.specs.Rows.{row_tuple}
use Rattle.wh_level.proofs.Expanding.{over_start, over_more, over_turned, over_end}
use Rattle.wh_level.proofs.Rooms.{rooms_itself, rooms_of_image, rooms_kept, item_of, level_at}
use Rattle.wh_level.proofs.search.Search.expand.Goals as goal

pub loop-m-init : goal.loop-m-init
loop-m-init c = record {
  rooms = rooms_itself c.args.image.now;
  over = over_start c.args.places.now c.args.from (row_tuple c.args.row.now) c.args.row.now.moves c.args.self.now c.requires.stands c.requires.cells;
}

pub image_place-requires-clause-level : goal.image_place-requires-clause-level
image_place-requires-clause-level c = level_at (row_tuple c.args.row.now) c.items-m-items.result.now c.args.row.now.moves c.loop-m.m-index c.m-item.result c.requires.row c.items-m-items.ensures (omega arith) c.m-item.is

pub image_place-requires-clause-rooms : goal.image_place-requires-clause-rooms
image_place-requires-clause-rooms c = rooms_kept c.loop-m.invariant.rooms c.requires.rooms

pub returns-in-None-clause-over : goal.returns-in-None-clause-over
returns-in-None-clause-over c =
    let level : IsLevelMove (row_tuple c.args.row.now) c.m-item.result =
    level_at (row_tuple c.args.row.now) c.items-m-items.result.now c.args.row.now.moves c.loop-m.m-index c.m-item.result c.requires.row c.items-m-items.ensures (omega arith) c.m-item.is in
    (act (row_tuple c.args.row.now) c.m-item.result, record { via = c.m-item.result; moves = level; is = refl; absent = c.in-None.ensures.place })

pub returns-in-None-clause-rooms : goal.returns-in-None-clause-rooms
returns-in-None-clause-rooms c = rooms_of_image (act (row_tuple c.args.row.now) c.m-item.result) c.loop-m.invariant.rooms c.image_place.ensures.image

pub follow-requires-clause-parents : goal.follow-requires-clause-parents
follow-requires-clause-parents c =
    omega (arith, c.loop-m.invariant.over.cells.parents, slice_get_within c.args.places.now c.in-Some.to (act (row_tuple c.args.row.now) c.m-item.result) c.in-Some.ensures.place)

pub follow-requires-clause-seen : goal.follow-requires-clause-seen
follow-requires-clause-seen c =
    omega (arith, c.loop-m.invariant.over.cells.seen, slice_get_within c.args.places.now c.in-Some.to (act (row_tuple c.args.row.now) c.m-item.result) c.in-Some.ensures.place)

pub loop-m-preserved-then-is_turned_cut : goal.loop-m-preserved-then-is_turned_cut
loop-m-preserved-then-is_turned_cut c = record {
  rooms = c.loop-m.invariant.rooms;
  over = over_turned c.args.places.now c.args.from (row_tuple c.args.row.now) c.args.row.now.moves c.args.self.now c.loop-m.self c.loop-m.m-index c.m-item.result
      c.requires.tuple c.requires.row (omega (arith, ap length c.items-m-items.ensures)) (item_of c.items-m-items.result.now c.args.row.now.moves c.loop-m.m-index c.m-item.result c.items-m-items.ensures c.m-item.is)
      (c.is_turned_cut.ensures.0 c.if-is_turned_cut.true) c.loop-m.invariant.over;
}

pub loop-m-preserved : goal.loop-m-preserved
loop-m-preserved c = record {
  rooms = rooms_of_image (act (row_tuple c.args.row.now) c.m-item.result) c.loop-m.invariant.rooms c.image_place.ensures.image;
  over = over_more c.args.places.now c.args.from (row_tuple c.args.row.now) c.args.row.now.moves c.args.self.now c.loop-m.self c.follow.new.self c.loop-m.m-index c.m-item.result c.in-Some.to
      c.requires.row (omega (arith, ap length c.items-m-items.ensures)) (item_of c.items-m-items.result.now c.args.row.now.moves c.loop-m.m-index c.m-item.result c.items-m-items.ensures c.m-item.is)
      c.in-Some.ensures.place c.in_ok-follow-in-Some.ensures c.loop-m.invariant.over;
}

pub returns-clause-over : goal.returns-clause-over
returns-clause-over c =
    over_end c.args.places.now c.args.from (row_tuple c.args.row.now) c.args.row.now.moves c.args.self.now c.loop-m.self c.loop-m.m-index c.requires.row
    (omega (arith, ap length c.items-m-items.ensures)) c.loop-m.invariant.over
