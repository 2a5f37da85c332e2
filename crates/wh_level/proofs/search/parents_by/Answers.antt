use Rattle.std.proofs.Common.{◌≡◌, ◌<◌, ◌≤◌, ◌∙◌, Some, slice_get, get_or, length, sym, ap, subst, arith, map}
use Rattle.std.proofs.lemmas.Option.{slice_get_within}
use Rattle.std.specs.List.Sorted.{IsStrictlySortedBy}
use Rattle.wh_words.specs.Tuples.{TupleData, IsTuple, tuple_cmp}
use Rattle.wh_expand.specs.Rows.{row_tuple}
use Rattle.wh_level.specs.PlacedTuples.{HasRoomsFor}
use Rattle.wh_level.specs.Searches.{GoesOver, IsAbsentImage}
use Rattle.wh_level.specs.Trees.{AreParents}
use Rattle.wh_level.proofs.FirstParents.{past_from_none, started_at, next_within, next_tuple, cells_of, row_within, row_tuple_is, row_good, missed_root, missed_image, went_over}
use Rattle.wh_level.proofs.Rooms.{rooms_itself, rooms_then, rooms_kept, rooms_in_level}
use Rattle.wh_level.proofs.SearchEnds.{AreAlone, same_places, level_exact, parents_whole}
use Rattle.wh_moves.proofs.Walks.{reached_tuple}
use Rattle.wh_level.proofs.search.parents_by.Goals as goal

pub returns-in_default-clause-parents : goal.returns-in_default-clause-parents
returns-in_default-clause-parents c = missed_root c.args.root.now.plain c.args.places.now c.in_default.ensures

pub start-requires : goal.start-requires
start-requires c = omega (arith, c.len.ensures.len, slice_get_within c.args.places.now c.in-Some.start c.args.root.now.plain c.in-Some.ensures)

pub loop-from-init : goal.loop-from-init
loop-from-init c = record {
  rooms = rooms_itself c.args.image.now;
  searched = started_at c.args.root.now.plain c.args.places.now c.len.result c.in-Some.start c.in_ok-search.search
      c.len.ensures.len c.in-Some.ensures c.in_ok-search.ensures;
}

pub bounds-numbers-from : goal.bounds-numbers-from
bounds-numbers-from c =
    let next = next_tuple c.loop-from.invariant.searched c.in-Some-found.from (sym c.found.ensures ∙ c.in-Some-found.is) in
    omega (arith, c.requires.numbers.count, slice_get_within c.args.places.now c.in-Some-found.from next.0 next.1)

pub bounds-rows-number : goal.bounds-rows-number
bounds-rows-number c =
    let next = next_tuple c.loop-from.invariant.searched c.in-Some-found.from (sym c.found.ensures ∙ c.in-Some-found.is) in
    row_within c.args.rows.now (get_or c.args.numbers.now c.in-Some-found.from 0) next.0 (c.requires.numbers.rows c.in-Some-found.from next.0 next.1)

pub offset_bounds-rows-number : goal.offset_bounds-rows-number
offset_bounds-rows-number c =
    let next = next_tuple c.loop-from.invariant.searched c.in-Some-found.from (sym c.found.ensures ∙ c.in-Some-found.is) in
    let within : (get_or c.args.numbers.now c.in-Some-found.from 0) < length c.args.rows.now =
    row_within c.args.rows.now (get_or c.args.numbers.now c.in-Some-found.from 0) next.0 (c.requires.numbers.rows c.in-Some-found.from next.0 next.1) in
    omega arith

pub expand-requires-clause-row : goal.expand-requires-clause-row
expand-requires-clause-row c =
    let next = next_tuple c.loop-from.invariant.searched c.in-Some-found.from (sym c.found.ensures ∙ c.in-Some-found.is) in
    let at : slice_get (map row_tuple c.args.rows.now) (get_or c.args.numbers.now c.in-Some-found.from 0) ≡ Some next.0 = c.requires.numbers.rows c.in-Some-found.from next.0 next.1 in
    row_good c.args.rows.now (get_or c.args.numbers.now c.in-Some-found.from 0) c.index-rows-number.result c.requires.rows (row_within c.args.rows.now (get_or c.args.numbers.now c.in-Some-found.from 0) next.0 at) c.index-rows-number.is

pub expand-requires-clause-stands : goal.expand-requires-clause-stands
expand-requires-clause-stands c =
    let next = next_tuple c.loop-from.invariant.searched c.in-Some-found.from (sym c.found.ensures ∙ c.in-Some-found.is) in
    let at : slice_get (map row_tuple c.args.rows.now) (get_or c.args.numbers.now c.in-Some-found.from 0) ≡ Some next.0 = c.requires.numbers.rows c.in-Some-found.from next.0 next.1 in
    next.1 ∙ ap Some (sym (row_tuple_is c.args.rows.now (get_or c.args.numbers.now c.in-Some-found.from 0) next.0 c.index-rows-number.result at c.index-rows-number.is))

pub expand-requires-clause-rooms : goal.expand-requires-clause-rooms
expand-requires-clause-rooms c =
    let next = next_tuple c.loop-from.invariant.searched c.in-Some-found.from (sym c.found.ensures ∙ c.in-Some-found.is) in
    let at : slice_get (map row_tuple c.args.rows.now) (get_or c.args.numbers.now c.in-Some-found.from 0) ≡ Some next.0 = c.requires.numbers.rows c.in-Some-found.from next.0 next.1 in
    subst (HasRoomsFor c.loop-from.image) (sym (row_tuple_is c.args.rows.now (get_or c.args.numbers.now c.in-Some-found.from 0) next.0 c.index-rows-number.result at c.index-rows-number.is))
    (rooms_kept c.loop-from.invariant.rooms (rooms_in_level c.requires.rooms next.2))

pub expand-requires-clause-cells : goal.expand-requires-clause-cells
expand-requires-clause-cells c = cells_of c.loop-from.invariant.searched

pub returns-then-not-branch-clause-parents : goal.returns-then-not-branch-clause-parents
returns-then-not-branch-clause-parents c =
    let next = next_tuple c.loop-from.invariant.searched c.in-Some-found.from (sym c.found.ensures ∙ c.in-Some-found.is) in
    let at : slice_get (map row_tuple c.args.rows.now) (get_or c.args.numbers.now c.in-Some-found.from 0) ≡ Some next.0 = c.requires.numbers.rows c.in-Some-found.from next.0 next.1 in
    missed_image c.args.root.now.plain c.args.places.now c.in-Some-found.from (row_tuple c.index-rows-number.result)
    (GoesOver c.args.places.now c.in-Some-found.from c.loop-from.search c.expand.new.self) c.in_ok-expand.field-0
    (next.1 ∙ ap Some (sym (row_tuple_is c.args.rows.now (get_or c.args.numbers.now c.in-Some-found.from 0) next.0 c.index-rows-number.result at c.index-rows-number.is)))
    c.if-not-branch.true c.in_ok-expand.ensures.over

pub overflow_add-at : goal.overflow_add-at
overflow_add-at c =
    omega (arith, c.len.ensures.len, next_within c.loop-from.invariant.searched c.in-Some-found.from (sym c.found.ensures ∙ c.in-Some-found.is))

pub loop-from-smaller : goal.loop-from-smaller
loop-from-smaller c =
    omega (arith, next_within c.loop-from.invariant.searched c.in-Some-found.from (sym c.found.ensures ∙ c.in-Some-found.is))

pub loop-from-preserved : goal.loop-from-preserved
loop-from-preserved c = record {
  rooms = rooms_then c.loop-from.invariant.rooms c.in_ok-expand.ensures.rooms;
  searched = went_over (GoesOver c.args.places.now c.in-Some-found.from c.loop-from.search c.expand.new.self)
      ((u : TupleData) × IsAbsentImage c.args.places.now (row_tuple c.index-rows-number.result) u) c.in_ok-expand.field-0 c.if-not-branch.false c.in_ok-expand.ensures.over
      c.args.root.now.plain c.loop-from.at (sym c.found.ensures ∙ c.in-Some-found.is) c.loop-from.invariant.searched;
}

pub returns-clause-parents : goal.returns-clause-parents
returns-clause-parents c =
    let sorted : IsStrictlySortedBy tuple_cmp c.args.places.now = c.requires.placing.sorted in
    let alone : AreAlone c.args.places.now = λ v w t. same_places c.args.places.now v w t sorted in
    let all : length c.loop-from.search.queue ≤ c.loop-from.at = past_from_none c.loop-from.search.queue c.loop-from.at (sym c.found.ensures ∙ c.in_default-found.is) in (
      record { sorted = sorted; exact = level_exact c.loop-from.invariant.searched all c.requires.within alone },
      subst (AreParents c.args.root.now.plain c.args.places.now) (sym c.into_parents.ensures) (parents_whole c.loop-from.invariant.searched all c.requires.within alone),
    )

pub expand-requires-clause-tuple : goal.expand-requires-clause-tuple
expand-requires-clause-tuple c =
    let next = next_tuple c.loop-from.invariant.searched c.in-Some-found.from (sym c.found.ensures ∙ c.in-Some-found.is) in
    let at : slice_get (map row_tuple c.args.rows.now) (get_or c.args.numbers.now c.in-Some-found.from 0) ≡ Some next.0 = c.requires.numbers.rows c.in-Some-found.from next.0 next.1 in
    subst IsTuple (sym (row_tuple_is c.args.rows.now (get_or c.args.numbers.now c.in-Some-found.from 0) next.0 c.index-rows-number.result at c.index-rows-number.is)) (reached_tuple c.requires.root next.2.1)
