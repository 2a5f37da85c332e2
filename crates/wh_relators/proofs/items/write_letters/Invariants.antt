use Rattle.std.proofs.Common.{◌≡◌, length, map, take}
use Rattle.std.specs.List.{range_with_len}
use Rattle.wh_relators.specs.Choices.{letter_item}
use Rattle.wh_relators.proofs.items.write_letters.Given as goal

abbrev pub invariant-loop-index : goal.invariant-loop-index
invariant-loop-index l = record {
  written : take l.count l.items ≡ map letter_item (range_with_len 0 l.index);
  count : l.count ≡ l.index;
  same_length : length l.items ≡ length l.fn.items;
}
