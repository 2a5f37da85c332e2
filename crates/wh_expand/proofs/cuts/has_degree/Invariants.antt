use Rattle.std.proofs.Common.{◌≡◌, false}
use Rattle.wh_expand.specs.Pieces.{LacksBetween}
use Rattle.wh_expand.proofs.cuts.has_degree.Given as goal

abbrev pub invariant-loop-capacity : goal.invariant-loop-capacity
invariant-loop-capacity l = l.found ≡ false → LacksBetween l.capacities l.degree 0 l.capacity-index
