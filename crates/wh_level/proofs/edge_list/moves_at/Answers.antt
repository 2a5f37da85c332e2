use Rattle.wh_level.proofs.LevelEdges.{tuple_at, rank_in_level, if_moves_at}
use Rattle.wh_level.proofs.edge_list.moves_at.Goals as goal

pub own_level_moves-requires : goal.own_level_moves-requires
own_level_moves-requires c =
    rank_in_level c.args.level.now c.args.place c.index-tuples-place.result.plain c.tuples.ensures.closed (tuple_at c.args.level.now c.tuples.result.now c.args.place c.index-tuples-place.result c.tuples.ensures.tuples c.requires c.index-tuples-place.is)

pub returns : goal.returns
returns c =
    if_moves_at (λ ms. ms.items) c.args.level.now c.args.place c.index-tuples-place.result.plain c.own_level_moves.result (tuple_at c.args.level.now c.tuples.result.now c.args.place c.index-tuples-place.result c.tuples.ensures.tuples c.requires c.index-tuples-place.is) c.own_level_moves.ensures
