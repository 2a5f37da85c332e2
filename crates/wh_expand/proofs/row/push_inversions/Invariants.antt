use Rattle.wh_words.specs.Moves.Kind.{invert}
use Rattle.wh_expand.specs.FirstLevelMoves.{AreLevelMovesBefore}
use Rattle.wh_expand.proofs.row.push_inversions.Given as goal

abbrev pub invariant-loop-k : goal.invariant-loop-k
invariant-loop-k l = AreLevelMovesBefore l.tuple.plain (invert l.k) l.moves.items
