use Rattle.std.proofs.Common.{◌≡◌}
use Rattle.wh_words.specs.Tuples.{in_rooms_of}
use Rattle.wh_words.specs.Moves.Kind.{invert}
use Rattle.wh_words.proofs.ActedRows.{acted}
use Rattle.wh_words.proofs.tuple.Tuple.become_inverted.Given as goal

abbrev pub invariant-loop-place : goal.invariant-loop-place
invariant-loop-place l = l.self ≡ in_rooms_of l.initial.self (acted l.tuple.plain (record { rank = l.tuple.plain.rank; kind = invert l.k }) l.place)
