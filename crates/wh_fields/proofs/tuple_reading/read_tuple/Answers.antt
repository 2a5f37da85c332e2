use Rattle.std.proofs.Common.{rules, ◌≡◌, arith, Ok}
use Rattle.wh_fields.specs.TupleFields.{words_at}
use Rattle.wh_fields.proofs.WordReadings.{words_read}
use Rattle.wh_fields.proofs.tuple_reading.read_tuple.Goals as goal

pub short_tuple-requires-clause-total : goal.short_tuple-requires-clause-total
short_tuple-requires-clause-total c =
    let e : words_at c.args.rank c.args.line c.args.fields.now ≡ Ok c.deref.result.now = search rules in
    omega (arith, (words_read c.args.rank c.args.line c.args.fields.now c.deref.result.now (omega arith) e).total, c.requires)

pub short_tuple-requires-clause-few : goal.short_tuple-requires-clause-few
short_tuple-requires-clause-few c =
    let e : words_at c.args.rank c.args.line c.args.fields.now ≡ Ok c.deref.result.now = search rules in
    omega (arith, (words_read c.args.rank c.args.line c.args.fields.now c.deref.result.now (omega arith) e).count)

pub short_tuple-requires-clause-of_rank : goal.short_tuple-requires-clause-of_rank
short_tuple-requires-clause-of_rank c =
    let e : words_at c.args.rank c.args.line c.args.fields.now ≡ Ok c.deref.result.now = search rules in
    (words_read c.args.rank c.args.line c.args.fields.now c.deref.result.now (omega arith) e).of_rank
