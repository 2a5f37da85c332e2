use Rattle.std.proofs.Common.{rules, map}
use Rattle.wh_expand.specs.Rows.{row_tuple}
use Rattle.wh_sets.proofs.Additions.{added_start, added_more, added_all}
use Rattle.wh_level.proofs.Placings.{placed_sorted}
use Rattle.wh_level.proofs.placing.placed.Goals as goal

pub loop-row-init : goal.loop-row-init
loop-row-init c = added_start row_tuple c.args.rows.now c.new-places.result (search rules)

pub loop-row-preserved : goal.loop-row-preserved
loop-row-preserved c = added_more row_tuple c.args.rows.now c.loop-row.row-index c.row-item.result c.loop-row.places c.add.new.self (search rules) (search rules) c.loop-row.invariant c.in_ok-add.ensures.added

pub returns : goal.returns
returns c =
    placed_sorted (map row_tuple c.args.rows.now) c.loop-row.places c.sort.new.self (added_all row_tuple c.args.rows.now c.loop-row.row-index c.loop-row.places (search rules) c.loop-row.invariant)
    c.in_ok-sort.ensures.same c.in_ok-sort.ensures.sorted
