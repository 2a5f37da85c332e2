use Rattle.std.proofs.Common.{◌≡◌, []}
use Rattle.wh_words.specs.Composites.{composite_below}
use Rattle.wh_composites.proofs.composing.generators.Given as goal

abbrev pub invariant-loop-g : goal.invariant-loop-g
invariant-loop-g l = l.images.items ≡ composite_below l.g []
