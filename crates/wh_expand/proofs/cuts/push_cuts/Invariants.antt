use Rattle.wh_words.specs.Moves.Kind.{cut}
use Rattle.wh_expand.specs.FirstLevelMoves.{AreLevelMovesBefore}
use Rattle.wh_expand.proofs.cuts.push_cuts.Given as goal

abbrev pub invariant-loop-index : goal.invariant-loop-index
invariant-loop-index l = AreLevelMovesBefore l.tuple.plain (cut l.index 0) l.moves.items
