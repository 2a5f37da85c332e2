use Rattle.std.proofs.Common.{ap}
use Rattle.wh_expand.specs.Rows.{row_tuple}
use Rattle.wh_workers.proofs.Exploring.{row_expandable}
use Rattle.wh_workers.proofs.one_thread.expand.Goals as goal

pub level_moves-requires : goal.level_moves-requires
level_moves-requires g c = (c.requires.fits c.tuple.result.now.plain c.tuple.ensures).rank

pub go_over-requires-clause-tuple : goal.go_over-requires-clause-tuple
go_over-requires-clause-tuple g c =
    (row_expandable c.args.level.now c.args.place c.args.image.now c.tuple.result.now.plain (row_tuple c.in_ok-row.row) c.requires.fits c.tuple.ensures (ap (λ t. t.plain) c.in_ok-row.ensures.tuple)).0.tuple

pub go_over-requires-clause-stands : goal.go_over-requires-clause-stands
go_over-requires-clause-stands g c =
    (row_expandable c.args.level.now c.args.place c.args.image.now c.tuple.result.now.plain (row_tuple c.in_ok-row.row) c.requires.fits c.tuple.ensures (ap (λ t. t.plain) c.in_ok-row.ensures.tuple)).1

pub go_over-requires-clause-rooms : goal.go_over-requires-clause-rooms
go_over-requires-clause-rooms g c =
    (row_expandable c.args.level.now c.args.place c.args.image.now c.tuple.result.now.plain (row_tuple c.in_ok-row.row) c.requires.fits c.tuple.ensures (ap (λ t. t.plain) c.in_ok-row.ensures.tuple)).0.rooms
