use Rattle.std.proofs.Common.{◌≡◌}
use Rattle.wh_words.specs.Flows.{AgreeBefore, place}
use Rattle.wh_flow.specs.Tables.{cell}
use Rattle.wh_flow.specs.Rerouting.{HaveOneNetFlow}
use Rattle.wh_flow.proofs.least.lower.Given as goal

abbrev pub invariant-lower : goal.invariant-lower
invariant-lower l = record {
  cap : l.residual.cap ≡ l.fn.residual.cap;
  from : l.residual.from ≡ l.fn.residual.from;
  net : HaveOneNetFlow (cell l.fn.residual.flow) (cell l.residual.flow);
  front : AgreeBefore (place l.x l.y) (cell l.fn.residual.flow) (cell l.residual.flow);
}

abbrev pub decreases-lower : goal.decreases-lower
decreases-lower l = cell l.residual.flow l.x l.y
