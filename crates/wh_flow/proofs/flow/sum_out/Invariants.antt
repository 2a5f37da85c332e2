use Rattle.std.proofs.Common.{◌≡◌, ◌≤◌, ◌*◌}
use Rattle.wh_words.specs.Flows.{sum_below}
use Rattle.wh_flow.specs.Tables.{cell}
use Rattle.wh_flow.proofs.flow.sum_out.Given as goal

abbrev pub invariant-loop-y : goal.invariant-loop-y
invariant-loop-y l = (l.total ≡ sum_below l.y (λ y. cell l.flow l.x y)) × (l.total ≤ l.y * 4294967295)
