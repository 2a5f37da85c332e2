use Rattle.wh_level.specs.Trees.{AreMoved}
use Rattle.wh_level.proofs.renumbering.moved_parents.Given as goal

abbrev pub invariant-loop-place : goal.invariant-loop-place
invariant-loop-place l = AreMoved l.places l.parents l.place l.moved.items
