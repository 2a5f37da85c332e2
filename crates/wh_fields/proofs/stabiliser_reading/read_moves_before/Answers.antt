use Rattle.std.proofs.Common.{◌+◌, length, sym, ap, ◌∙◌, arith, drop}
use Rattle.std.proofs.lemmas.List.{length_push}
use Rattle.wh_fields.specs.MoveFields.{kind_in, move_with}
use Rattle.wh_fields.specs.StabiliserFields.{moves_before}
use Rattle.wh_fields.proofs.StabiliserReadings.{in_front, moves_sign, moves_more, moves_none, moves_end}
use Rattle.wh_fields.proofs.stabiliser_reading.read_moves_before.Goals as goal

pub returns-then-is : goal.returns-then-is
returns-then-is c = record {
  moves = moves_sign c.args.rank c.args.fields.now c.loop-field.moves.items c.loop-field.field-index c.field-item.result (omega arith) c.field-item.is (sym c.is.ensures ∙ c.if-is.true) c.loop-field.invariant.told;
  fewer = omega (arith, c.loop-field.invariant.count);
}

pub returns-in-None : goal.returns-in-None
returns-in-None c = record {
  moves = moves_none c.args.rank c.args.fields.now c.loop-field.moves.items c.loop-field.field-index c.field-item.result (omega arith) c.field-item.is (sym c.is.ensures ∙ c.if-is.false) (ap (λ bs. move_with c.args.rank (kind_in c.args.rank bs)) (sym c.bytes.ensures) ∙ sym c.in-None.ensures) c.loop-field.invariant.told;
  fewer = tt;
}

pub loop-field-preserved : goal.loop-field-preserved
loop-field-preserved c = record {
  told = ap (λ ms. in_front ms (moves_before c.args.rank (drop (c.loop-field.field-index + 1) c.args.fields.now))) c.in_ok-push-in-Some.ensures.items
      ∙ moves_more c.args.rank c.args.fields.now c.loop-field.moves.items c.loop-field.field-index c.field-item.result c.in-Some.m (omega arith) c.field-item.is (sym c.is.ensures ∙ c.if-is.false) (ap (λ bs. move_with c.args.rank (kind_in c.args.rank bs)) (sym c.bytes.ensures) ∙ sym c.in-Some.ensures) c.loop-field.invariant.told;
  count = omega (arith, ap length c.in_ok-push-in-Some.ensures.items, length_push c.loop-field.moves.items c.in-Some.m, c.loop-field.invariant.count);
}

pub returns : goal.returns
returns c = record { moves = moves_end c.args.rank c.args.fields.now c.loop-field.moves.items c.loop-field.field-index (omega arith) c.loop-field.invariant.told; fewer = tt }
