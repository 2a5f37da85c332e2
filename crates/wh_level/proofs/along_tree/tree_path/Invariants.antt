use Rattle.std.proofs.Common.{length, ◌-◌}
use Rattle.wh_level.proofs.Paths.{IsOnTheWayBack}
use Rattle.wh_level.proofs.along_tree.tree_path.Given as goal

abbrev pub invariant-back : goal.invariant-back
invariant-back l = IsOnTheWayBack l.parents l.place l.here l.moves.items

abbrev pub decreases-back : goal.decreases-back
decreases-back l = length l.parents - length l.moves.items
