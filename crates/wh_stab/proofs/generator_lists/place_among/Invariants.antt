use Rattle.std.proofs.Common.{map}
use Rattle.wh_stab.proofs.ListedGenerators.{LacksBefore}
use Rattle.wh_stab.proofs.generator_lists.place_among.Given as goal

abbrev pub invariant-loop-place : goal.invariant-loop-place
invariant-loop-place l = LacksBefore (map (λ t. t.plain) l.tuples) l.place l.tuple.plain
