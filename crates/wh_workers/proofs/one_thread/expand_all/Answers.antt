use Rattle.std.proofs.Common.{rules, ◌≡◌, ◌+◌, ◌<◌, ◌≤◌, length, Some, slice_get, sym, ap, ◌∙◌, subst, arith, inl}
use Rattle.wh_words.specs.Tuples.{TupleData, IsTuple}
use Rattle.wh_expand.specs.Rows.{row_tuple}
use Rattle.wh_level.specs.PlacedTuples.{HasRoomsFor}
use Rattle.wh_level.specs.GrowingLevels.{HasGoneOver}
use Rattle.wh_level.proofs.Rooms.{rooms_then, rooms_kept}
use Rattle.wh_workers.proofs.Exploring.{more_than, gone_over, all_over, next_expandable}
use Rattle.wh_workers.proofs.one_thread.expand_all.Goals as goal

pub returns-then-len-limit-clause-expanded : goal.returns-then-len-limit-clause-expanded
returns-then-len-limit-clause-expanded g c =
    more_than c.args.root.now.plain c.args.limit c.over.level c.over.place c.len-in-over.ensures.distinct (omega (arith, c.len-in-over.ensures.len, c.if-len-limit.true)) c.over.invariant.on

pub expand-requires-clause-fits : goal.expand-requires-clause-fits
expand-requires-clause-fits g c =
    next_expandable c.args.root.now.plain c.args.limit c.over.level c.over.place c.over.image c.requires.root c.requires.rank (rooms_kept c.over.invariant.rooms c.requires.rooms)
    (omega (arith, c.len-in-over.ensures.len, c.if-len-limit.false)) c.over.invariant.on

pub over-preserved : goal.over-preserved
over-preserved g c =
    let few : length c.over.level.tuples ≤ c.args.limit = omega (arith, c.len-in-over.ensures.len, c.if-len-limit.false) in
    record {
      on = c.in_ok-expand.ensures.over c.args.root.now.plain (gone_over c.args.root.now.plain c.args.limit c.over.level c.over.place few c.over.invariant.on);
      few = omega (arith, few, c.len.ensures.len, c.over-test.true);
      rooms = rooms_then c.over.invariant.rooms c.in_ok-expand.ensures.rooms;
      steps = omega (arith, c.in_ok-expand.ensures.step, c.over.invariant.steps);
    }

pub returns-clause-expanded : goal.returns-clause-expanded
returns-clause-expanded g c =
    let all = all_over c.args.root.now.plain c.args.limit c.over.level c.over.place c.over.invariant.few (omega (arith, c.len.ensures.len, c.over-test.false)) c.over.invariant.on in
    (all.0, omega (arith, all.1, c.over.invariant.few))

pub returns-clause-steps : goal.returns-clause-steps
returns-clause-steps g c =
    let all = all_over c.args.root.now.plain c.args.limit c.over.level c.over.place c.over.invariant.few (omega (arith, c.len.ensures.len, c.over-test.false)) c.over.invariant.on in
    omega (arith, all.1, c.over.invariant.steps)
