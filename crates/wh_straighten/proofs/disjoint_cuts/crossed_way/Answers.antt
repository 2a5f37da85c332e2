use Rattle.wh_straighten.proofs.LoweredRows.{exchanged_is_cut}
use Rattle.wh_straighten.proofs.disjoint_cuts.crossed_way.Goals as goal

pub shortens-requires : goal.shortens-requires
shortens-requires c =
    exchanged_is_cut c.args.top.now.plain.rank c.args.first_mult c.args.second_mult c.args.first_set c.args.second_set c.inverse.result c.inverse.ensures c.requires.first c.requires.second c.requires.apart c.requires.back
