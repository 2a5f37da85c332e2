use Rattle.std.proofs.Common.{◌∙◌, ◌∷◌, ◌++◌, ap, arith}
use Rattle.std.specs.List.{flat_map}
use Rattle.std.proofs.lemmas.List.{take_all}
use Rattle.wh_fields.specs.Words.{word_text}
use Rattle.wh_fields.proofs.RepeatedTexts.{word_fields}
use Rattle.wh_fields.proofs.tuple_printing.print_word_fields.Goals as goal

pub returns : goal.returns
returns c =
    c.loop-place.invariant
    ∙ ap (λ ws. c.args.out.now.items ++ flat_map (λ w. 32 ∷ word_text w) ws) (take_all c.loop-place.place c.args.tuple.now.plain.words (omega (arith, c.loop-place-test.false, c.count-place-end.ensures.count)))
    ∙ ap (λ v. c.args.out.now.items ++ v) (word_fields c.args.tuple.now.plain.words)
