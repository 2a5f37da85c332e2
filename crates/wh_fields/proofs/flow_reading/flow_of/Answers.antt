use Rattle.std.proofs.Common.{◌≡◌, arith, rules, Some}
use Rattle.wh_fields.specs.FlowFields.{pair_in, pair_from}
use Rattle.wh_fields.proofs.PairTables.{table_more, table_none}
use Rattle.wh_fields.proofs.flow_reading.flow_of.Goals as goal

pub returns-in-None : goal.returns-in-None
returns-in-None c = table_none c.args.n c.loop-field.flow c.loop-field.least c.args.fields.now c.loop-field.field-index c.field-item.result (omega arith) (search rules) (search rules) c.loop-field.invariant

pub loop-field-preserved : goal.loop-field-preserved
loop-field-preserved c =
    let told : Some c.in-Some.pair ≡ pair_from c.loop-field.least (pair_in c.args.n c.field-item.result.bytes) = search rules in
    rw (c.put.ensures, c.place-least.ensures.same)
    (table_more c.args.n c.loop-field.flow c.loop-field.least c.args.fields.now c.loop-field.field-index c.field-item.result c.in-Some.pair (omega arith) (search rules) told c.loop-field.invariant)
