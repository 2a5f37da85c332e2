use Rattle.std.proofs.Common.{◌≡◌}
use Rattle.wh_words.specs.Images.{images_below}
use Rattle.wh_moves.proofs.letter_images.images.Given as goal

abbrev pub invariant-loop-g : goal.invariant-loop-g
invariant-loop-g l = l.words.items ≡ images_below l.g l.m.kind
