use Rattle.std.proofs.Common.{◌+◌, ◌*◌, ◌^◌}
use Rattle.wh_words.specs.Moves.Kind.{cut}
use Rattle.wh_expand.specs.FirstLevelMoves.{AreLevelMovesBefore}
use Rattle.wh_expand.proofs.Runs.{run}
use Rattle.wh_expand.proofs.cuts.push_cuts_with.Given as goal

abbrev pub invariant-loop-block : goal.invariant-loop-block
invariant-loop-block l = AreLevelMovesBefore l.tuple.plain (cut l.fn.mult (4 * run l.fn.mult * l.block + 2 ^ l.fn.mult)) l.moves.items
