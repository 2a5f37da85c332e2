use Rattle.std.proofs.Common.{take, ap, ◌∙◌, arith}
use Rattle.wh_relators.specs.Choices.{letter_item}
use Rattle.wh_relators.proofs.ItemLists.{letters_more}
use Rattle.wh_relators.proofs.items.write_letters.Goals as goal

pub loop-index-preserved : goal.loop-index-preserved
loop-index-preserved c = record {
  written = letters_more c.loop-index.index (take c.loop-index.count c.loop-index.items) (take c.write_item-count.result c.write_item-count.new.items) c.letter_item.result c.loop-index.invariant.written (c.letter_item.ensures ∙ ap letter_item c.of_index.ensures) c.write_item-count.ensures.written;
  count = omega (arith, c.write_item-count.ensures.next, c.loop-index.invariant.count);
  same_length = c.write_item-count.ensures.same_length ∙ c.loop-index.invariant.same_length;
}
