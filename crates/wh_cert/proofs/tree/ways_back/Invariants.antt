use Rattle.std.proofs.Common.{◌+◌, ◌-◌, ◌*◌, ◌≤◌, length}
use Rattle.wh_words.specs.Limits.{most_level_tuples}
use Rattle.wh_cert.specs.WaysBack.{AreSteps}
use Rattle.wh_cert.proofs.tree.ways_back.Given as goal

abbrev pub invariant-loop-steps : goal.invariant-loop-steps
invariant-loop-steps l = (1 ≤ l.steps) × (l.steps ≤ 2 * most_level_tuples) × AreSteps l.parents l.steps (length l.parents + 1) l.to.items

abbrev pub decreases-loop-steps : goal.decreases-loop-steps
decreases-loop-steps l = length l.parents - l.steps
