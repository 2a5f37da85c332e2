use Rattle.std.proofs.Common.{subst, sym, ◌<◌, ◌≤◌}
use Rattle.wh_flow.specs.Tables.{cell}
use Rattle.wh_flow.specs.Residuals.{ResidualNet}
use Rattle.wh_flow.proofs.ResidualNets.{lowered_residual}
use Rattle.wh_flow.proofs.residual.ResidualNet.lower.Goals as goal
use Rattle.wh_words.specs.Flows.{place}

pub invariant_of-self : goal.invariant_of-self
invariant_of-self c = rw c.take.ensures.rest
    (lowered_residual c.self.inside.cap.now c.self.inside.flow c.self.inside.successors c.self.inside.from c.args.x c.args.y c.args.d c.requires.x_within c.requires.y_within
    (subst (λ (r : ResidualNet). place c.args.x c.args.y < r.from) (sym c.self.view_is) c.requires.left_out)
    (subst (λ (r : ResidualNet). c.args.d ≤ cell r.flow c.args.x c.args.y) (sym c.self.view_is) c.requires.fits)
    c.self.invariant)
