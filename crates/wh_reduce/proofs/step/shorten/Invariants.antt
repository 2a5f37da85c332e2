use Rattle.std.proofs.Common.{ℕ, ◌*◌, ◌<◌}
use Rattle.wh_words.specs.CapacityTraces.{IsFlatByCapacitiesAt}
use Rattle.wh_reduce.proofs.step.shorten.Given as goal

abbrev pub invariant-loop-generator : goal.invariant-loop-generator
invariant-loop-generator l = (g : ℕ) → g < l.generator → IsFlatByCapacitiesAt l.tuple.plain (2 * g)
