use Rattle.std.proofs.Common.{◌∙◌, ◌∷◌, ◌++◌, ap, arith}
use Rattle.std.specs.List.{flat_map}
use Rattle.std.proofs.lemmas.List.{take_all}
use Rattle.wh_fields.specs.MoveFields.{kind_text}
use Rattle.wh_fields.proofs.RepeatedTexts.{move_fields}
use Rattle.wh_fields.proofs.move_printing.print_move_fields.Goals as goal

pub returns : goal.returns
returns c =
    c.loop-m.invariant ∙ ap (λ ms. c.args.out.now.items ++ flat_map (λ m. 32 ∷ kind_text m.kind) ms) (take_all c.loop-m.m-index c.args.moves.now (omega (arith, c.loop-m-test.false)))
    ∙ ap (λ v. c.args.out.now.items ++ v) (move_fields c.args.moves.now)
