use Rattle.wh_words.specs.Tuples.{TupleData}
use Rattle.wh_level.specs.Sealings.{IsMissed}
use Rattle.wh_level.proofs.Absent.{within_level, closed_of, missing_of}
use Rattle.wh_level.proofs.Rooms.{rooms_kept, rooms_in_level}
use Rattle.wh_level.proofs.sealing.seal_placed.Goals as goal

pub first_parents-requires-clause-within : goal.first_parents-requires-clause-within
first_parents-requires-clause-within c = within_level c.args.root.now.plain c.args.rows.now c.args.places.now c.requires.placing c.requires.within

pub missing-requires-clause-rooms : goal.missing-requires-clause-rooms
missing-requires-clause-rooms c = λ k d h. rooms_kept c.in_ok-parents.ensures.rooms (rooms_in_level c.requires.rooms (c.requires.within k d h))

pub returns-in_ok-level_of-in-Some : goal.returns-in_ok-level_of-in-Some
returns-in_ok-level_of-in-Some c =
    closed_of c.args.root.now.plain c.args.rows.now c.args.places.now c.in_ok-level_of-in-Some.field-0 c.requires.placing c.in_ok-level_of-in-Some.ensures.closed c.in_ok-level_of-in-Some.ensures.root c.in_ok-level_of-in-Some.ensures.tuples

pub returns-in_ok-missing-in-None : goal.returns-in_ok-missing-in-None
returns-in_ok-missing-in-None c =
    let some : (t : TupleData) × IsMissed c.args.root.now.plain c.args.places.now t = rw c.in-None.is at c.in_ok-parents.ensures.parents in
    missing_of c.args.root.now.plain c.args.rows.now c.args.places.now c.in_ok-missing-in-None.field-0 c.requires.placing c.in_ok-missing-in-None.ensures.sorted c.in_ok-missing-in-None.ensures.exact some
