use Rattle.wh_composites.proofs.ComposedImages.{AreComposed}
use Rattle.wh_composites.proofs.composing.compose.Given as goal

abbrev pub invariant-loop-made : goal.invariant-loop-made
invariant-loop-made l = AreComposed l.fn.rank l.list l.made l.images.items
