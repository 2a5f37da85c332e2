use Rattle.std.proofs.Common.{◌≡◌, ◌≤◌, ◌*◌}
use Rattle.wh_words.specs.Flows.{sum_below}
use Rattle.wh_flow.specs.Tables.{cell}
use Rattle.wh_flow.proofs.flow.sum_in.Given as goal

abbrev pub invariant-loop-y : goal.invariant-loop-y
invariant-loop-y l = (l.total ≡ sum_below l.y (λ y. cell l.flow y l.x)) × (l.total ≤ l.y * 4294967295)
