use Rattle.std.proofs.Common.{length, ap, sym, subst, arith}
use Rattle.wh_words.specs.Tuples.{Tuple}
use Rattle.wh_words.specs.Action.{act}
use Rattle.wh_expand.specs.Rows.{row_tuple}
use Rattle.wh_level.specs.GrowingLevels.{IsMet}
use Rattle.wh_level.proofs.Growth.{growing_start, growing_met, growing_turned, growing_past, growing_end}
use Rattle.wh_level.proofs.Rooms.{rooms_itself, rooms_of_image, item_of, level_at}
use Rattle.wh_level.proofs.growing_level.GrowingLevel.go_over.Goals as goal

pub loop-m-init : goal.loop-m-init
loop-m-init c = record {
  rooms = rooms_itself c.args.image.now;
  growing = λ root h. growing_start h (row_tuple c.args.row.now) c.args.row.now.moves c.requires.stands;
}

pub loop-m-preserved-then-is_turned_cut : goal.loop-m-preserved-then-is_turned_cut
loop-m-preserved-then-is_turned_cut c = record {
  rooms = c.loop-m.invariant.rooms;
  growing = λ root h.
      growing_turned (c.loop-m.invariant.growing root h) c.m-item.result c.requires.row (omega (arith, ap length c.items-m-items.ensures))
      (item_of c.items-m-items.result.now c.args.row.now.moves c.loop-m.m-index c.m-item.result c.items-m-items.ensures c.m-item.is) c.requires.tuple (c.is_turned_cut.ensures.0 c.if-is_turned_cut.true);
}

pub act_into-requires-clause-rank : goal.act_into-requires-clause-rank
act_into-requires-clause-rank c =
    sym (level_at (row_tuple c.args.row.now) c.items-m-items.result.now c.args.row.now.moves c.loop-m.m-index c.m-item.result c.requires.row c.items-m-items.ensures (omega arith) c.m-item.is).rank

pub returns-then-len-limit-clause-over : goal.returns-then-len-limit-clause-over
returns-then-len-limit-clause-over c = λ root h.
    growing_past c.args.limit
    (growing_met (c.loop-m.invariant.growing root h) c.m-item.result c.requires.row (omega (arith, ap length c.items-m-items.ensures))
    (item_of c.items-m-items.result.now c.args.row.now.moves c.loop-m.m-index c.m-item.result c.items-m-items.ensures c.m-item.is) c.meet.new.self
    (subst (λ (t : Tuple). IsMet c.loop-m.self c.args.place c.m-item.result t.plain c.meet.new.self) c.act_into.ensures c.in_ok-meet.ensures))
    (omega (arith, c.len.ensures.len, c.if-len-limit.true))

pub loop-m-preserved : goal.loop-m-preserved
loop-m-preserved c = record {
  rooms = rooms_of_image (act (row_tuple c.args.row.now) c.m-item.result) c.loop-m.invariant.rooms c.act_into.ensures;
  growing = λ root h.
      growing_met (c.loop-m.invariant.growing root h) c.m-item.result c.requires.row (omega (arith, ap length c.items-m-items.ensures))
      (item_of c.items-m-items.result.now c.args.row.now.moves c.loop-m.m-index c.m-item.result c.items-m-items.ensures c.m-item.is) c.meet.new.self
      (subst (λ (t : Tuple). IsMet c.loop-m.self c.args.place c.m-item.result t.plain c.meet.new.self) c.act_into.ensures c.in_ok-meet.ensures);
}

pub returns-clause-over : goal.returns-clause-over
returns-clause-over c = λ root h. growing_end c.args.limit (c.loop-m.invariant.growing root h) c.requires.row (omega (arith, ap length c.items-m-items.ensures))
