use Rattle.std.proofs.Common.{◌≡◌, ◌+◌, ◌<◌, ◌≤◌, ℕ, arith, sym, subst}
use Rattle.wh_words.specs.Flows.{place}
use Rattle.wh_flow.specs.Tables.{cell}
use Rattle.wh_flow.specs.Residuals.{ResidualNet}
use Rattle.wh_flow.proofs.ResidualNets.{skipped_residual}
use Rattle.wh_flow.proofs.residual.ResidualNet.leave_out_empty.Goals as goal

-- Nothing may flow at the next pairs.
abbrev IsEmptyAfter : ResidualNet → ℕ → Type 0
IsEmptyAfter r pairs = (x y : ℕ) → x < 52 → y < 52 → r.from ≤ place x y → place x y < r.from + pairs → cell r.cap x y ≡ 0

pub invariant_of-self : goal.invariant_of-self
invariant_of-self c =
    skipped_residual c.self.inside.cap.now c.self.inside.flow c.self.inside.from (c.self.inside.from + c.args.pairs) (omega arith) c.self.invariant.within
    (subst (λ (r : ResidualNet). IsEmptyAfter r c.args.pairs) (sym c.self.view_is) c.requires.empty) c.self.inside.successors c.self.invariant
