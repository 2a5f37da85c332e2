use Rattle.wh_flow.specs.Searches.{residual}
use Rattle.wh_flow.proofs.Masks.{noted}
use Rattle.wh_flow.proofs.ResidualNets.{shift_agrees}
use Rattle.wh_flow.proofs.residual.ResidualNet.shift.Goals as goal

pub invariant_of-self : goal.invariant_of-self
invariant_of-self c = record {
  low = c.self.invariant.low;
  table = c.shift.ensures.table;
  within = c.shift.ensures.shifted.within;
  successors = noted c.self.inside.successors c.note_edge.new.successors c.note_edge-2.new.successors (residual c.self.inside.cap.now c.self.inside.flow c.self.inside.from) (residual c.self.inside.cap.now c.shift.new.flow c.self.inside.from)
      c.args.x c.args.y c.requires.x_within c.requires.y_within c.self.invariant.successors
      (shift_agrees c.self.inside.cap.now c.self.inside.flow c.shift.new.flow c.self.inside.from c.args.x c.args.y c.requires.x_within c.requires.y_within c.shift.ensures.kept)
      c.note_edge.ensures.here c.note_edge.ensures.others c.note_edge-2.ensures.here c.note_edge-2.ensures.others;
}
