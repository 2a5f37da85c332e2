use Rattle.std.proofs.Common.{◌≡◌}
use Rattle.wh_flow.specs.Tables.{cell}
use Rattle.wh_flow.specs.Rerouting.{HaveOneNetFlow, IsFirstUpTo}
use Rattle.wh_words.specs.Flows.{place}
use Rattle.wh_flow.proofs.least.lower_all.Given as goal

abbrev pub invariant-loop-x : goal.invariant-loop-x
invariant-loop-x l = record {
  cap : l.residual.cap ≡ l.fn.residual.cap;
  from : l.residual.from ≡ place l.x 0;
  net : HaveOneNetFlow (cell l.fn.residual.flow) (cell l.residual.flow);
  first : IsFirstUpTo (place l.x 0) (cell l.fn.residual.cap) (cell l.residual.flow);
}
