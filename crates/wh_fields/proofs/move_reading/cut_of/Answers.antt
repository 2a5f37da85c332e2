use Rattle.std.proofs.Common.{◌≡◌, ◌<◌, ◌*◌, ◌^◌, ◌∙◌, sym, ap, arith, rules, Some}
use Rattle.std.proofs.lemmas.Nat.{pow_pos}
use Rattle.wh_fields.specs.MoveFields.{set_from, cut_with, cut_of, move_with}
use Rattle.wh_fields.proofs.LetterMasks.{mask_within, cut_is}
use Rattle.wh_fields.proofs.move_reading.cut_of.Goals as goal

pub returns : goal.returns
returns c =
    let read : set_from c.args.rank 0 0 c.args.bytes.now ≡ Some c.in_ok-mask.mask = search rules in
    let mult : c.args.mult ≡ Some c.in_ok-mult.mult = search rules in
    let mask : c.of_bits.result ≡ c.in_ok-mask.mask = c.of_bits.ensures in
    let below : c.of_bits.result < 2 ^ (2 * c.args.rank) = omega (arith, mask, mask_within c.args.rank 0 0 c.args.bytes.now c.in_ok-mask.mask (omega (arith, c.get.ensures)) (pow_pos (2 * c.args.rank)) read) in
    cut_is c.args.rank c.in_ok-mult.mult c.of_bits.result c.cut.result below c.cut.ensures.none c.cut.ensures.some
    ∙ ap (λ m. move_with c.args.rank (cut_with c.in_ok-mult.mult (Some m))) mask
    ∙ sym (ap (λ o. move_with c.args.rank (cut_with c.in_ok-mult.mult o)) read)
    ∙ sym (ap (λ o. move_with c.args.rank (cut_of c.args.rank c.args.bytes.now o)) mult)
