use Rattle.std.proofs.Common.{◌∙◌, ◌∷◌, ◌++◌, ap, arith, decimal}
use Rattle.std.specs.List.{flat_map}
use Rattle.std.proofs.lemmas.List.{take_all}
use Rattle.wh_fields.proofs.RepeatedTexts.{number_fields}
use Rattle.wh_fields.proofs.stabiliser_printing.print_number_fields.Goals as goal

pub returns : goal.returns
returns c =
    c.loop-n.invariant ∙ ap (λ ns. c.args.out.now.items ++ flat_map (λ n. 32 ∷ decimal n) ns) (take_all c.loop-n.n-index c.args.numbers.now (omega (arith, c.loop-n-test.false)))
    ∙ ap (λ v. c.args.out.now.items ++ v) (number_fields c.args.numbers.now)
