use Rattle.std.proofs.Common.{List, sym, subst, ◌*◌, arith}
use Rattle.wh_words.specs.Moves.{Move}
use Rattle.wh_words.specs.Moves.Kind.{swap}
use Rattle.wh_expand.specs.FirstLevelMoves.{AreLevelMovesBefore}
use Rattle.wh_expand.proofs.FirstMoves.{none_first, all_level_moves}
use Rattle.wh_expand.proofs.row.push_level_moves.Goals as goal

pub push_swaps-requires : goal.push_swaps-requires
push_swaps-requires c = subst (λ (ms : List Move). AreLevelMovesBefore c.args.tuple.now.plain (swap 1) ms) (sym c.requires.none) (none_first c.args.tuple.now.plain)

pub returns : goal.returns
returns c = all_level_moves c.args.tuple.now.plain c.push_cuts.new.moves.items (2 * c.args.tuple.now.plain.rank) c.in_ok-push_cuts.ensures (omega arith)
