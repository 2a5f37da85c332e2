use Rattle.std.proofs.Common.{◌≡◌, ◌≢◌, ℕ, ◌<◌}
use Rattle.wh_words.specs.Flows.{outflow, inflow}
use Rattle.wh_flow.specs.Tables.{cell}
use Rattle.wh_flow.proofs.check.is_conserved.Given as goal

abbrev pub invariant-loop-x : goal.invariant-loop-x
invariant-loop-x l = (x : ℕ) → x < l.x → x ≢ l.s → x ≢ l.t → outflow (cell l.flow) x ≡ inflow (cell l.flow) x
