use Rattle.std.proofs.Common.{rules, arith}
use Rattle.std.proofs.lemmas.Result.{err_from_is_err_and}
use Rattle.wh_fields.specs.Words.{word_at}
use Rattle.wh_lines.proofs.ItemReadings.{items_fail}
use Rattle.wh_fields.proofs.tuple_reading.words.Goals as goal

pub returns-in_err-w : goal.returns-in_err-w
returns-in_err-w c =
    let p = err_from_is_err_and c.from_residual.result c.from_residual.ensures.1 in
    rw (p.1, p.2) (items_fail (word_at c.args.n c.args.line) c.args.fields.now c.loop-field.out.items c.loop-field.field-index c.field-item.result c.in_err-w.field-0.0
    (omega arith) (search rules) c.in_err-w.ensures c.loop-field.invariant)
