use Rattle.std.proofs.Common.{◌≡◌, rules, arith, Ok}
use Rattle.std.proofs.lemmas.Result.{err_from_is_err_and}
use Rattle.wh_fields.specs.MoveFields.{move_at}
use Rattle.wh_lines.proofs.ItemReadings.{items_more, items_fail}
use Rattle.wh_fields.proofs.move_reading.read_moves.Goals as goal

pub returns-in_err-m : goal.returns-in_err-m
returns-in_err-m c =
    let p = err_from_is_err_and c.from_residual.result c.from_residual.ensures.1 in
    rw (p.1, p.2) (items_fail (move_at c.args.rank c.args.line) c.args.fields.now c.loop-field.out.items c.loop-field.field-index c.field-item.result c.in_err-m.field-0.0
    (omega arith) (search rules) c.in_err-m.ensures c.loop-field.invariant)

pub loop-field-preserved : goal.loop-field-preserved
loop-field-preserved c =
    let told : move_at c.args.rank c.args.line c.field-item.result ≡ Ok c.in_ok-m.m = search rules in
    rw c.in_ok-push.ensures.items (items_more (move_at c.args.rank c.args.line) c.args.fields.now c.loop-field.out.items c.loop-field.field-index c.field-item.result c.in_ok-m.m
    (omega arith) (search rules) told c.loop-field.invariant)
