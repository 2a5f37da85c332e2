use Rattle.std.proofs.Common.{◌≡◌}
use Rattle.wh_moves.proofs.ActedLists.{copied}
use Rattle.wh_moves.proofs.list_action.roomy_copy.Given as goal

abbrev pub invariant-loop-place : goal.invariant-loop-place
invariant-loop-place l = l.made ≡ copied l.tuple.plain l.place
