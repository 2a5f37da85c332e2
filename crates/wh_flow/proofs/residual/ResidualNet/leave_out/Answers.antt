use Rattle.std.proofs.Common.{◌≡◌, ◌+◌, ap, ◌∙◌}
use Rattle.wh_flow.specs.Searches.{residual}
use Rattle.wh_flow.specs.Residuals.{ResidualNet}
use Rattle.wh_flow.proofs.Masks.{noted}
use Rattle.wh_flow.proofs.ResidualNets.{left_out_agrees}
use Rattle.wh_flow.proofs.residual.ResidualNet.leave_out.Goals as goal
use Rattle.wh_words.specs.Flows.{place}

pub invariant_of-self : goal.invariant_of-self
invariant_of-self c =
    let first : c.self.inside.from ≡ place c.args.x c.args.y = ap (λ (r : ResidualNet). r.from) c.self.view_is ∙ c.requires.first in
    record {
      low = c.self.invariant.low;
      table = c.self.invariant.table;
      within = c.self.invariant.within;
      successors = noted c.self.inside.successors c.note_edge.new.successors c.note_edge-2.new.successors (residual c.self.inside.cap.now c.self.inside.flow c.self.inside.from) (residual c.self.inside.cap.now c.self.inside.flow (c.self.inside.from + 1))
          c.args.x c.args.y c.requires.x_within c.requires.y_within c.self.invariant.successors
          (left_out_agrees c.self.inside.cap.now c.self.inside.flow c.self.inside.from c.args.x c.args.y c.requires.x_within c.requires.y_within first)
          c.note_edge.ensures.here c.note_edge.ensures.others c.note_edge-2.ensures.here c.note_edge-2.ensures.others;
    }
