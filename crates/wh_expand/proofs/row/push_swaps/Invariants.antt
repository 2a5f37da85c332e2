use Rattle.wh_words.specs.Moves.Kind.{swap}
use Rattle.wh_expand.specs.FirstLevelMoves.{AreLevelMovesBefore}
use Rattle.wh_expand.proofs.row.push_swaps.Given as goal

abbrev pub invariant-loop-k : goal.invariant-loop-k
invariant-loop-k l = AreLevelMovesBefore l.tuple.plain (swap l.k) l.moves.items
