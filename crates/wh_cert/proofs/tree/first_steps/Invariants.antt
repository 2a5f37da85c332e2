use Rattle.wh_cert.specs.WaysBack.{AreSteps}
use Rattle.wh_cert.proofs.tree.first_steps.Given as goal

abbrev pub invariant-loop-place : goal.invariant-loop-place
invariant-loop-place l = AreSteps l.parents 1 l.place l.to.items
