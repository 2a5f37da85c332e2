use Rattle.std.proofs.Common.{◌≡◌, ◌<◌, ℕ, length, get_or}
use Rattle.wh_flow.specs.Masks.{IsMaskOf}
use Rattle.wh_flow.specs.Searches.{residual}
use Rattle.wh_flow.proofs.residual.write_successors.Given as goal

abbrev pub invariant-loop-v : goal.invariant-loop-v
invariant-loop-v l = record {
  size : length l.successors ≡ 52;
  successors : (v : ℕ) → v < l.v → IsMaskOf (get_or l.successors v 0) (residual l.cap l.flow 0 v);
}
