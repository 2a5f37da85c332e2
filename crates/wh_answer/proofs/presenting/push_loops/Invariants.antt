use Rattle.std.proofs.Common.{◌≡◌, ◌++◌, map, reverse, length}
use Rattle.wh_stab.specs.Relators.{relator_of}
use Rattle.wh_answer.specs.StabiliserAnswers.{told_loop}
use Rattle.wh_answer.proofs.presenting.push_loops.Given as goal

abbrev pub invariant-loop-relator : goal.invariant-loop-relator
invariant-loop-relator l = map told_loop l.loops.items ++ map relator_of (reverse l.relators.items) ≡ map relator_of l.fn.relators.items

abbrev pub decreases-loop-relator : goal.decreases-loop-relator
decreases-loop-relator l = length l.relators.items
