use Rattle.std.proofs.Common.{◌∙◌, length-set}
use Rattle.wh_flow.specs.Searches.{residual}
use Rattle.wh_flow.proofs.Masks.{masks_written}
use Rattle.wh_flow.proofs.residual.write_successors.Goals as goal

pub loop-v-preserved : goal.loop-v-preserved
loop-v-preserved c = record {
  size = length-set c.loop-v.successors c.loop-v.v c.bits.result ∙ c.loop-v.invariant.size;
  successors = masks_written c.loop-v.successors (residual c.args.cap.now c.args.flow.now 0) c.loop-v.v c.successors_of.result c.bits.result c.loop-v.invariant.size c.loop-v-test.true c.bits.ensures c.successors_of.ensures c.loop-v.invariant.successors;
}
