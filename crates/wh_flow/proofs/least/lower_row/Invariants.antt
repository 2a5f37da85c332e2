use Rattle.std.proofs.Common.{◌≡◌}
use Rattle.wh_flow.specs.Tables.{cell}
use Rattle.wh_flow.specs.Rerouting.{HaveOneNetFlow, IsFirstUpTo}
use Rattle.wh_flow.proofs.least.lower_row.Given as goal
use Rattle.wh_words.specs.Flows.{place}

abbrev pub invariant-loop-y : goal.invariant-loop-y
invariant-loop-y l = record {
  cap : l.residual.cap ≡ l.fn.residual.cap;
  from : l.residual.from ≡ place l.x l.y;
  net : HaveOneNetFlow (cell l.fn.residual.flow) (cell l.residual.flow);
  first : IsFirstUpTo (place l.x l.y) (cell l.fn.residual.cap) (cell l.residual.flow);
}
