use Rattle.std.proofs.Common.{◌≡◌, ◌≤◌, ◌+◌, ◌-◌}
use Rattle.wh_words.specs.Flows.{IsFlow, outflow, inflow, degree}
use Rattle.wh_flow.specs.Tables.{cell}
use Rattle.wh_flow.proofs.maximum.max_flow.Given as goal

abbrev pub invariant-raise : goal.invariant-raise
invariant-raise g l = record {
  sink : l.search.sink ≡ l.fn.t;
  cap : l.residual.cap ≡ l.net.cells;
  from : l.residual.from ≡ 0;
  flow : IsFlow (cell l.net.cells) (cell l.residual.flow) l.s l.fn.t;
  count : l.steps + inflow (cell l.residual.flow) l.s ≤ l.initial.steps + outflow (cell l.residual.flow) l.s;
}

abbrev pub decreases-raise : goal.decreases-raise
decreases-raise g l = (degree (cell l.net.cells) l.s + inflow (cell l.residual.flow) l.s) - outflow (cell l.residual.flow) l.s
