use Rattle.std.proofs.Common.{◌≡◌}
use Rattle.wh_words.specs.Tuples.{tuple_length}
use Rattle.wh_words.proofs.ActedRows.{acted}
use Rattle.wh_moves.proofs.action.acted_length.Given as goal

abbrev pub invariant-loop-place : goal.invariant-loop-place
invariant-loop-place l = l.total ≡ tuple_length (acted l.tuple.plain l.m l.place)
