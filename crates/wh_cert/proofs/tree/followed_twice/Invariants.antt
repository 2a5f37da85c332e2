use Rattle.wh_cert.specs.WaysBack.{AreTwice}
use Rattle.wh_cert.proofs.tree.followed_twice.Given as goal

abbrev pub invariant-loop-place : goal.invariant-loop-place
invariant-loop-place l = AreTwice l.to l.place l.twice.items
