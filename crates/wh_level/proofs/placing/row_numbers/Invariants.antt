use Rattle.std.proofs.Common.{map}
use Rattle.wh_expand.specs.Rows.{row_tuple}
use Rattle.wh_level.proofs.Placings.{AreNumbersTo}
use Rattle.wh_level.proofs.placing.row_numbers.Given as goal

abbrev pub invariant-loop-number : goal.invariant-loop-number
invariant-loop-number l = AreNumbersTo (map row_tuple l.rows) l.places l.number l.numbers.items
