use Rattle.std.proofs.Common.{[], ◌≤◌, length, map}
use Rattle.wh_words.specs.Limits.{most_relators}
use Rattle.wh_stab.specs.Numberings.{presentation}
use Rattle.wh_stab.specs.Relators.{relator_of, AreFirstRelators}
use Rattle.wh_stab.proofs.relators.push_relators.Given as goal

abbrev pub invariant-loop-at : goal.invariant-loop-at
invariant-loop-at l = record {
  first : AreFirstRelators (presentation [] l.level l.generators) l.at (map relator_of l.relators.items);
  few : length l.relators.items ≤ most_relators;
}
