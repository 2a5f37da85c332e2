use Rattle.std.proofs.Common.{◌≡◌, ◌*◌, ◌≤◌, length, take}
use Rattle.wh_relators.proofs.ItemLists.{cuts_before}
use Rattle.wh_relators.proofs.items.write_cuts.Given as goal

abbrev pub invariant-loop-index : goal.invariant-loop-index
invariant-loop-index l = record {
  written : take l.count l.items ≡ cuts_before l.rank l.index;
  end : l.count ≤ 256 * l.index;
  same_length : length l.items ≡ length l.fn.items;
}
