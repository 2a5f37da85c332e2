use Rattle.std.proofs.Common.{◌≡◌, ◌+◌, ◌≤◌, ◌++◌, length, take}
use Rattle.wh_relators.proofs.ItemLists.{with_mult}
use Rattle.wh_relators.proofs.items.write_cuts_with.Given as goal

abbrev pub invariant-loop-mask : goal.invariant-loop-mask
invariant-loop-mask l = record {
  written : take l.count l.items ≡ take l.fn.start l.fn.items ++ with_mult l.mult l.mask;
  least : l.fn.start ≤ l.count;
  end : l.count ≤ l.fn.start + l.mask;
  same_length : length l.items ≡ length l.fn.items;
}
