use Rattle.std.proofs.Common.{ap, ◌∙◌, arith}
use Rattle.wh_composites.specs.Composing.{letter_count}
use Rattle.wh_composites.proofs.ComposedImages.{after_move, composed_start, composed_few, composed_step, composed_fault}
use Rattle.wh_composites.proofs.composing.compose.Goals as goal

pub loop-made-init : goal.loop-made-init
loop-made-init c = composed_start c.args.rank c.args.list.now c.in_ok-images.images.items c.in_ok-images.ensures.low c.in_ok-images.ensures.composite

pub letter_count-length-requires : goal.letter_count-length-requires
letter_count-length-requires c =
    record { few = composed_few c.args.rank c.args.list.now c.loop-made.made c.loop-made.images.items c.deref-in-loop-made.result.now c.index-list-made.result c.loop-made.invariant (c.deref-in-loop-made.ensures.value ∙ c.in_ok-images-2.ensures.images ∙ ap (after_move c.index-list-made.result.kind) c.deref.ensures.value) }

pub returns-then-length-gt-MOST_IMAGE_LETTERS-clause-fault : goal.returns-then-length-gt-MOST_IMAGE_LETTERS-clause-fault
returns-then-length-gt-MOST_IMAGE_LETTERS-clause-fault c =
    composed_fault c.args.rank c.args.list.now c.loop-made.made c.letter_count-length.result c.loop-made.images.items c.in_ok-images-2.images.items c.index-list-made.result c.loop-made.invariant
    (omega arith) c.index-list-made.is c.in_ok-images-2.ensures.valid (c.in_ok-images-2.ensures.images ∙ ap (after_move c.index-list-made.result.kind) c.deref.ensures.value) (c.letter_count-length.ensures ∙ ap letter_count c.deref-in-loop-made.ensures.value) (omega arith)

pub loop-made-preserved : goal.loop-made-preserved
loop-made-preserved c =
    composed_step c.args.rank c.args.list.now c.loop-made.made c.loop-made.images.items c.in_ok-images-2.images.items c.index-list-made.result c.loop-made.invariant
    (omega arith) c.index-list-made.is c.in_ok-images-2.ensures.valid (c.in_ok-images-2.ensures.images ∙ ap (after_move c.index-list-made.result.kind) c.deref.ensures.value) (omega (arith, c.letter_count-length.ensures ∙ ap letter_count c.deref-in-loop-made.ensures.value, c.if-length-gt-MOST_IMAGE_LETTERS.false))
