use Rattle.std.proofs.Common.{rules, arith, sym, subst, ◌∙◌, reverse}
use Rattle.wh_straighten.proofs.StraightWays.{identity_dropped, move_done, next_rank, next_fits, back_rank, back_fits, corner_rounded, rooms_onward, none_left, arrived, IsUnderWay}
use Rattle.wh_straighten.proofs.straightening.straighten_each.Goals as goal

pub loop-m-smaller-then-is_identity : goal.loop-m-smaller-then-is_identity
loop-m-smaller-then-is_identity c =
    (identity_dropped c.args.here.now.plain (reverse c.args.todo.now.items) c.requires.tuple c.requires.of_rank c.requires.fits c.loop-m.done.items c.loop-m.todo.items c.pop.new.self.items c.in-Some.m c.in-Some.ensures.items
    c.loop-m.here.plain c.loop-m.invariant.here c.loop-m.invariant.way (c.is_identity.ensures.0 c.if-is_identity.true)).1

pub loop-m-preserved-then-is_identity : goal.loop-m-preserved-then-is_identity
loop-m-preserved-then-is_identity c = record {
  way = (identity_dropped c.args.here.now.plain (reverse c.args.todo.now.items) c.requires.tuple c.requires.of_rank c.requires.fits c.loop-m.done.items c.loop-m.todo.items c.pop.new.self.items c.in-Some.m c.in-Some.ensures.items
      c.loop-m.here.plain c.loop-m.invariant.here c.loop-m.invariant.way (c.is_identity.ensures.0 c.if-is_identity.true)).0;
  here = c.loop-m.invariant.here;
  rooms = c.loop-m.invariant.rooms;
}

pub way_round-requires-clause-left_rank : goal.way_round-requires-clause-left_rank
way_round-requires-clause-left_rank c =
    back_rank c.args.here.now.plain (reverse c.args.todo.now.items) c.requires.tuple c.requires.of_rank c.requires.fits c.loop-m.done.items c.loop-m.todo.items c.pop.new.self.items c.in-Some.m c.in-Some.ensures.items
    c.loop-m.here.plain c.loop-m.invariant.here c.loop-m.invariant.way c.in-Some-turned_back.back c.deref.result.now c.deref.ensures.value c.in-Some-turned_back.ensures

pub way_round-requires-clause-right_rank : goal.way_round-requires-clause-right_rank
way_round-requires-clause-right_rank c =
    next_rank c.args.here.now.plain (reverse c.args.todo.now.items) c.requires.tuple c.requires.of_rank c.requires.fits c.loop-m.done.items c.loop-m.todo.items c.pop.new.self.items c.in-Some.m c.in-Some.ensures.items
    c.loop-m.here.plain c.loop-m.invariant.here c.loop-m.invariant.way

pub advance-requires-clause-rank : goal.advance-requires-clause-rank
advance-requires-clause-rank c =
    sym (back_rank c.args.here.now.plain (reverse c.args.todo.now.items) c.requires.tuple c.requires.of_rank c.requires.fits c.loop-m.done.items c.loop-m.todo.items c.pop.new.self.items c.in-Some.m c.in-Some.ensures.items
    c.loop-m.here.plain c.loop-m.invariant.here c.loop-m.invariant.way c.in-Some-turned_back.back c.deref.result.now c.deref.ensures.value c.in-Some-turned_back.ensures)

pub advance-requires-clause-fits : goal.advance-requires-clause-fits
advance-requires-clause-fits c =
    back_fits c.args.here.now.plain (reverse c.args.todo.now.items) c.requires.tuple c.requires.of_rank c.requires.fits c.loop-m.done.items c.loop-m.todo.items c.pop.new.self.items c.in-Some.m c.in-Some.ensures.items
    c.loop-m.here.plain c.loop-m.invariant.here c.loop-m.invariant.way c.in-Some-turned_back.back c.deref.result.now c.deref.ensures.value c.in-Some-turned_back.ensures

pub loop-m-smaller-in-Some-turned_back : goal.loop-m-smaller-in-Some-turned_back
loop-m-smaller-in-Some-turned_back c =
    (corner_rounded c.args.here.now.plain (reverse c.args.todo.now.items) c.requires.tuple c.requires.of_rank c.requires.fits c.loop-m.done.items c.loop-m.todo.items c.pop.new.self.items c.in-Some.m c.in-Some.ensures.items
    c.loop-m.here.plain c.loop-m.invariant.here c.loop-m.invariant.way c.in-Some-turned_back.back c.deref.result.now c.deref.ensures.value c.in-Some-turned_back.ensures
    c.in_ok-round-in-Some-turned_back.round.items c.pop-in-Some-turned_back.new.self.items c.extend_from_slice.new.self.items c.in_ok-round-in-Some-turned_back.ensures.lowered c.in_ok-round-in-Some-turned_back.ensures.few
    (search rules) (search rules)).1

pub loop-m-preserved-in-Some-turned_back : goal.loop-m-preserved-in-Some-turned_back
loop-m-preserved-in-Some-turned_back c =
    let w = corner_rounded c.args.here.now.plain (reverse c.args.todo.now.items) c.requires.tuple c.requires.of_rank c.requires.fits c.loop-m.done.items c.loop-m.todo.items c.pop.new.self.items c.in-Some.m c.in-Some.ensures.items
    c.loop-m.here.plain c.loop-m.invariant.here c.loop-m.invariant.way c.in-Some-turned_back.back c.deref.result.now c.deref.ensures.value c.in-Some-turned_back.ensures
    c.in_ok-round-in-Some-turned_back.round.items c.pop-in-Some-turned_back.new.self.items c.extend_from_slice.new.self.items c.in_ok-round-in-Some-turned_back.ensures.lowered c.in_ok-round-in-Some-turned_back.ensures.few
    (search rules) (search rules) in
    record {
      way = w.0;
      here = c.advance.ensures.acted ∙ w.2;
      rooms = rooms_onward c.args.here.now.plain c.loop-m.here c.loop-m.spare c.advance.new.here c.advance.new.spare c.loop-m.invariant.rooms c.advance.ensures.rooms;
    }

pub advance-requires-in-None-clause-rank : goal.advance-requires-in-None-clause-rank
advance-requires-in-None-clause-rank c =
    sym (next_rank c.args.here.now.plain (reverse c.args.todo.now.items) c.requires.tuple c.requires.of_rank c.requires.fits c.loop-m.done.items c.loop-m.todo.items c.pop.new.self.items c.in-Some.m c.in-Some.ensures.items
    c.loop-m.here.plain c.loop-m.invariant.here c.loop-m.invariant.way)

pub advance-requires-in-None-clause-fits : goal.advance-requires-in-None-clause-fits
advance-requires-in-None-clause-fits c =
    next_fits c.args.here.now.plain (reverse c.args.todo.now.items) c.requires.tuple c.requires.of_rank c.requires.fits c.loop-m.done.items c.loop-m.todo.items c.pop.new.self.items c.in-Some.m c.in-Some.ensures.items
    c.loop-m.here.plain c.loop-m.invariant.here c.loop-m.invariant.way

pub loop-m-preserved : goal.loop-m-preserved
loop-m-preserved c =
    let w = move_done c.args.here.now.plain (reverse c.args.todo.now.items) c.requires.tuple c.requires.of_rank c.requires.fits c.loop-m.done.items c.loop-m.todo.items c.pop.new.self.items c.in-Some.m c.in-Some.ensures.items
    c.loop-m.here.plain c.loop-m.invariant.here c.loop-m.invariant.way c.deref.result.now c.push.new.self.items c.deref.ensures.value c.in_ok-push-in-None.ensures.items c.in-None.ensures in
    record {
      way = w.0;
      here = c.advance-in-None.ensures.acted ∙ w.2;
      rooms = rooms_onward c.args.here.now.plain c.loop-m.here c.loop-m.spare c.advance-in-None.new.here c.advance-in-None.new.spare c.loop-m.invariant.rooms c.advance-in-None.ensures.rooms;
    }

pub returns : goal.returns
returns c =
    arrived c.args.here.now.plain (reverse c.args.todo.now.items) c.requires.tuple c.requires.of_rank c.requires.fits c.loop-m.done.items
    (subst (IsUnderWay c.args.here.now.plain (reverse c.args.todo.now.items) c.loop-m.done.items) (none_left c.loop-m.todo.items (omega (arith, c.loop-m.todo.ok, c.in_default.ensures.cases))) c.loop-m.invariant.way)
