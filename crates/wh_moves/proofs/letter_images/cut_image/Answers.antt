use Rattle.std.proofs.Common.{refl, true, false, arith, rules}
use Rattle.wh_words.specs.Letters.{inverse_letter}
use Rattle.wh_moves.proofs.CutLetters.{gives_image}
use Rattle.wh_moves.proofs.letter_images.cut_image.Goals as goal

pub returns-then-behind : goal.returns-then-behind
returns-then-behind c =
    gives_image c.reduce-then-behind.result c.args.mult c.args.set c.args.x c.inverse-then-behind.result true true (λ e. c.if-generator.false (omega (arith, e))) c.inverse-then-behind.ensures (search rules) (search rules) c.reduce-then-behind.ensures.reduced

pub returns-then-before-2 : goal.returns-then-before-2
returns-then-before-2 c =
    gives_image c.reduce-then-before-2.result c.args.mult c.args.set c.args.x c.inverse-then-before-2.result true false (λ e. c.if-generator.false (omega (arith, e))) c.inverse-then-before-2.ensures (search rules) (search rules) c.reduce-then-before-2.ensures.reduced

pub returns-then-behind-2 : goal.returns-then-behind-2
returns-then-behind-2 c =
    gives_image c.reduce-then-behind-2.result c.args.mult c.args.set c.args.x (inverse_letter c.args.mult) false true (λ e. c.if-generator.false (omega (arith, e))) refl (search rules) (search rules) c.reduce-then-behind-2.ensures.reduced
