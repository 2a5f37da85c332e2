use Rattle.std.proofs.Common.{take, ◌∙◌, arith}
use Rattle.wh_relators.proofs.ItemLists.{cut_next}
use Rattle.wh_relators.proofs.items.write_cuts_with.Goals as goal

pub loop-mask-preserved : goal.loop-mask-preserved
loop-mask-preserved c = record {
  written = c.write_parted-count.ensures.written ∙ cut_next c.args.mult c.loop-mask.mask _ (take c.args.start c.args.items.now) (take c.loop-mask.count c.loop-mask.items) c.loop-mask.invariant.written c.of_bits.ensures;
  least = omega (arith, c.loop-mask.invariant.least, c.write_parted-count.ensures.least);
  end = omega (arith, c.loop-mask.invariant.end, c.write_parted-count.ensures.end);
  same_length = c.write_parted-count.ensures.same_length ∙ c.loop-mask.invariant.same_length;
}
