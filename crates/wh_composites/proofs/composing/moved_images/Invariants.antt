use Rattle.std.proofs.Common.{◌≡◌, take}
use Rattle.wh_composites.proofs.ComposedImages.{after_move}
use Rattle.wh_composites.proofs.composing.moved_images.Given as goal

abbrev pub invariant-loop-word : goal.invariant-loop-word
invariant-loop-word l = l.moved.items ≡ after_move l.m.kind (take l.word-index l.images)
