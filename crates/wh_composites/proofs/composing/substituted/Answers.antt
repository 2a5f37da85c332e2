use Rattle.std.proofs.Common.{◌≡◌, ℕ, List, refl, ap, ◌∙◌, subst, arith, IfOk}
use Rattle.std.proofs.lemmas.List.{take_all}
use Rattle.wh_words.specs.Images.{image}
use Rattle.wh_words.specs.Words.{free_reduction}
use Rattle.wh_words.specs.Action.{substitute}
use Rattle.wh_composites.proofs.ComposedImages.{substitute_more}
use Rattle.wh_composites.proofs.composing.substituted.Goals as goal

pub loop-x-preserved : goal.loop-x-preserved
loop-x-preserved c =
    c.in_ok-push_image.ensures
    ∙ substitute_more c.args.m.now.kind c.loop-x.letters.items (image c.args.m.now.kind c.x-item.result) c.args.word.now c.loop-x.x-index c.x-item.result (omega arith) c.x-item.is c.loop-x.invariant refl

pub returns : goal.returns
returns c =
    let whole = c.deref.ensures.value ∙ c.loop-x.invariant ∙ ap (substitute c.args.m.now.kind) (take_all c.loop-x.x-index c.args.word.now (omega arith)) in
    subst (λ (v : List ℕ). IfOk c.reduce.result (λ w. w ≡ free_reduction v)) whole c.reduce.ensures.reduced
