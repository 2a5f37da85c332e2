use Rattle.std.proofs.Common.{◌+◌, sym, ap, ◌∙◌, arith, drop}
use Rattle.wh_fields.specs.StabiliserFields.{word_in}
use Rattle.wh_fields.proofs.StabiliserReadings.{in_front, word_more, word_none, word_end}
use Rattle.wh_fields.proofs.stabiliser_reading.read_word.Goals as goal

pub returns-in-None : goal.returns-in-None
returns-in-None c =
    word_none c.args.fields.now c.loop-field.word.items c.loop-field.field-index c.field-item.result (omega arith) c.field-item.is (sym c.in-None.ensures) c.loop-field.invariant

pub loop-field-preserved : goal.loop-field-preserved
loop-field-preserved c =
    ap (λ ks. in_front ks (word_in (drop (c.loop-field.field-index + 1) c.args.fields.now))) c.in_ok-push-in-Some.ensures.items
    ∙ word_more c.args.fields.now c.loop-field.word.items c.loop-field.field-index c.in-Some.k c.field-item.result (omega arith) c.field-item.is (sym c.in-Some.ensures) c.loop-field.invariant

pub returns : goal.returns
returns c = word_end c.args.fields.now c.loop-field.word.items c.loop-field.field-index (omega arith) c.loop-field.invariant
