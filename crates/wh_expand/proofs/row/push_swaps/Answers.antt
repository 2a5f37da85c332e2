use Rattle.std.proofs.Common.{◌+◌, List, sym, subst, arith}
use Rattle.wh_words.specs.Moves.{Move}
use Rattle.wh_words.specs.Moves.Kind.{swap}
use Rattle.wh_expand.specs.FirstLevelMoves.{AreLevelMovesBefore}
use Rattle.wh_expand.proofs.FirstMoves.{push_swap, all_swaps}
use Rattle.wh_expand.proofs.row.push_swaps.Goals as goal

pub loop-k-preserved : goal.loop-k-preserved
loop-k-preserved c =
    subst (λ (ms : List Move). AreLevelMovesBefore c.args.tuple.now.plain (swap (c.loop-k.k + 1)) ms) (sym c.in_ok-push.ensures.items)
    (push_swap c.args.tuple.now.plain c.rank-rank.ensures.roomed.tuple c.rank-rank.result c.rank-rank.ensures.rank c.get-k-end.ensures.greatest c.loop-k.moves.items c.loop-k.k (omega arith)
    c.swap.result c.unwrap.result c.unwrap.ensures c.swap.ensures.some (omega (arith, c.get-k-end.ensures.same)) c.loop-k.invariant)

pub returns : goal.returns
returns c = all_swaps c.args.tuple.now.plain c.loop-k.moves.items c.loop-k.k c.loop-k.invariant (omega (arith, c.rank-rank.ensures.rank, c.get-k-end.ensures.same, c.get-k-end.ensures.least))
