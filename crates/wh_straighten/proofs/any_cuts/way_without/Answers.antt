use Rattle.std.proofs.Common.{arith, rules}
use Rattle.wh_straighten.proofs.LoweredCuts.{side_made, apart_from_bits, sides_peak, lowered_by_sides}
use Rattle.wh_straighten.proofs.any_cuts.way_without.Goals as goal

pub disjoint_way-requires-clause-first : goal.disjoint_way-requires-clause-first
disjoint_way-requires-clause-first c =
    (side_made c.rank-rank.result c.args.top.now.plain.rank c.args.letter c.args.first_mult c.args.first_set c.side_mult-near.result c.side_set-near_set.result c.rank-rank.ensures.rank c.requires.first c.side_mult-near.ensures.same c.side_mult-near.ensures.turned c.side_set-near_set.ensures.same c.side_set-near_set.ensures.turned c.side_set-near_set.ensures.within).cut

pub disjoint_way-requires-clause-second : goal.disjoint_way-requires-clause-second
disjoint_way-requires-clause-second c =
    (side_made c.rank-rank.result c.args.top.now.plain.rank c.args.letter c.args.second_mult c.args.second_set c.side_mult-far.result c.side_set-far_set.result c.rank-rank.ensures.rank c.requires.second c.side_mult-far.ensures.same c.side_mult-far.ensures.turned c.side_set-far_set.ensures.same c.side_set-far_set.ensures.turned c.side_set-far_set.ensures.within).cut

pub disjoint_way-requires-clause-apart : goal.disjoint_way-requires-clause-apart
disjoint_way-requires-clause-apart c = apart_from_bits c.side_set-near_set.result c.side_set-far_set.result (search rules)

pub disjoint_way-requires-clause-peak : goal.disjoint_way-requires-clause-peak
disjoint_way-requires-clause-peak c =
    sides_peak c.args.top.now.plain c.rank-rank.ensures.roomed.tuple (omega (arith, c.get.ensures.greatest, c.rank-rank.ensures.rank)) c.args.first_mult c.args.second_mult c.args.first_set c.args.second_set c.requires.first c.requires.second c.requires.peak
    c.args.letter c.side_mult-near.result c.side_set-near_set.result c.side_mult-far.result c.side_set-far_set.result
    (side_made c.rank-rank.result c.args.top.now.plain.rank c.args.letter c.args.first_mult c.args.first_set c.side_mult-near.result c.side_set-near_set.result c.rank-rank.ensures.rank c.requires.first c.side_mult-near.ensures.same c.side_mult-near.ensures.turned c.side_set-near_set.ensures.same c.side_set-near_set.ensures.turned c.side_set-near_set.ensures.within)
    (side_made c.rank-rank.result c.args.top.now.plain.rank c.args.letter c.args.second_mult c.args.second_set c.side_mult-far.result c.side_set-far_set.result c.rank-rank.ensures.rank c.requires.second c.side_mult-far.ensures.same c.side_mult-far.ensures.turned c.side_set-far_set.ensures.same c.side_set-far_set.ensures.turned c.side_set-far_set.ensures.within)

pub returns-clause-lowered : goal.returns-clause-lowered
returns-clause-lowered c =
    lowered_by_sides c.args.top.now.plain c.rank-rank.ensures.roomed.tuple (omega (arith, c.get.ensures.greatest, c.rank-rank.ensures.rank)) c.args.first_mult c.args.second_mult c.args.first_set c.args.second_set c.requires.first c.requires.second c.requires.peak
    c.args.letter c.side_mult-near.result c.side_set-near_set.result c.side_mult-far.result c.side_set-far_set.result
    (side_made c.rank-rank.result c.args.top.now.plain.rank c.args.letter c.args.first_mult c.args.first_set c.side_mult-near.result c.side_set-near_set.result c.rank-rank.ensures.rank c.requires.first c.side_mult-near.ensures.same c.side_mult-near.ensures.turned c.side_set-near_set.ensures.same c.side_set-near_set.ensures.turned c.side_set-near_set.ensures.within)
    (side_made c.rank-rank.result c.args.top.now.plain.rank c.args.letter c.args.second_mult c.args.second_set c.side_mult-far.result c.side_set-far_set.result c.rank-rank.ensures.rank c.requires.second c.side_mult-far.ensures.same c.side_mult-far.ensures.turned c.side_set-far_set.ensures.same c.side_set-far_set.ensures.turned c.side_set-far_set.ensures.within)
    c.in_ok-way.way.items c.in_ok-way.ensures.lowered
