use Rattle.std.proofs.Common.{[], map, take}
use Rattle.wh_expand.specs.Rows.{row_tuple}
use Rattle.wh_sets.specs.TupleSets.{AreAdded}
use Rattle.wh_level.proofs.placing.placed.Given as goal

abbrev pub invariant-loop-row : goal.invariant-loop-row
invariant-loop-row l = AreAdded [] (map row_tuple (take l.row-index l.rows)) l.places
