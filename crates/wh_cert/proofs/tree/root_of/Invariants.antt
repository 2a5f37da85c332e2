use Rattle.wh_cert.proofs.JudgedTrees.{AreFilled}
use Rattle.wh_cert.proofs.tree.root_of.Given as goal

abbrev pub invariant-loop-place : goal.invariant-loop-place
invariant-loop-place l = AreFilled l.parents l.place
