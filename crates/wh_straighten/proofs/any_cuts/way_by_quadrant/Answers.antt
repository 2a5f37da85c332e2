use Rattle.std.proofs.Common.{◌≡◌, ℕ, ◌++◌, subst, arith, rules}
use Rattle.wh_straighten.specs.Lowering.{IsQuadrant}
use Rattle.wh_straighten.proofs.LoweredCuts.{side_made, near_apart, far_apart, near_peak, far_peak, lowered_by_quadrant}
use Rattle.wh_straighten.proofs.any_cuts.way_by_quadrant.Goals as goal

pub disjoint_way-requires-clause-first : goal.disjoint_way-requires-clause-first
disjoint_way-requires-clause-first c =
    (side_made c.rank-rank.result c.args.top.now.plain.rank c.serving_letter-mult.result c.args.first_mult c.args.first_set c.side_mult-near.result c.side_set-near_set.result c.rank-rank.ensures.rank c.requires.first c.side_mult-near.ensures.same c.side_mult-near.ensures.turned c.side_set-near_set.ensures.same c.side_set-near_set.ensures.turned c.side_set-near_set.ensures.within).cut

pub disjoint_way-requires-clause-second : goal.disjoint_way-requires-clause-second
disjoint_way-requires-clause-second c =
    (c.serving_letter-mult.ensures c.quadrant-set.result (subst (λ (z : ℕ). IsQuadrant z c.args.first_set c.args.second_set c.serving_letter-mult.result c.quadrant-set.result) c.rank-rank.ensures.rank c.quadrant-set.ensures.quadrant)).cut

pub disjoint_way-requires-clause-apart : goal.disjoint_way-requires-clause-apart
disjoint_way-requires-clause-apart c =
    near_apart c.args.top.now.plain c.rank-rank.ensures.roomed.tuple (omega (arith, c.quadrant-set.ensures.low, c.rank-rank.ensures.rank)) c.args.first_mult c.args.second_mult c.args.first_set c.args.second_set c.requires.first c.requires.second c.requires.peak c.serving_letter-mult.result c.quadrant-set.result
    (c.serving_letter-mult.ensures c.quadrant-set.result (subst (λ (z : ℕ). IsQuadrant z c.args.first_set c.args.second_set c.serving_letter-mult.result c.quadrant-set.result) c.rank-rank.ensures.rank c.quadrant-set.ensures.quadrant))
    c.side_mult-near.result c.side_set-near_set.result
    (side_made c.rank-rank.result c.args.top.now.plain.rank c.serving_letter-mult.result c.args.first_mult c.args.first_set c.side_mult-near.result c.side_set-near_set.result c.rank-rank.ensures.rank c.requires.first c.side_mult-near.ensures.same c.side_mult-near.ensures.turned c.side_set-near_set.ensures.same c.side_set-near_set.ensures.turned c.side_set-near_set.ensures.within)

pub disjoint_way-requires-clause-peak : goal.disjoint_way-requires-clause-peak
disjoint_way-requires-clause-peak c =
    near_peak c.args.top.now.plain c.rank-rank.ensures.roomed.tuple (omega (arith, c.quadrant-set.ensures.low, c.rank-rank.ensures.rank)) c.args.first_mult c.args.second_mult c.args.first_set c.args.second_set c.requires.first c.requires.second c.requires.peak c.serving_letter-mult.result c.quadrant-set.result
    (c.serving_letter-mult.ensures c.quadrant-set.result (subst (λ (z : ℕ). IsQuadrant z c.args.first_set c.args.second_set c.serving_letter-mult.result c.quadrant-set.result) c.rank-rank.ensures.rank c.quadrant-set.ensures.quadrant))
    c.side_mult-near.result c.side_set-near_set.result
    (side_made c.rank-rank.result c.args.top.now.plain.rank c.serving_letter-mult.result c.args.first_mult c.args.first_set c.side_mult-near.result c.side_set-near_set.result c.rank-rank.ensures.rank c.requires.first c.side_mult-near.ensures.same c.side_mult-near.ensures.turned c.side_set-near_set.ensures.same c.side_set-near_set.ensures.turned c.side_set-near_set.ensures.within)

pub disjoint_way-requires-2-clause-second : goal.disjoint_way-requires-2-clause-second
disjoint_way-requires-2-clause-second c =
    (side_made c.rank-rank.result c.args.top.now.plain.rank c.serving_letter-mult.result c.args.second_mult c.args.second_set c.side_mult-far.result c.side_set-far_set.result c.rank-rank.ensures.rank c.requires.second c.side_mult-far.ensures.same c.side_mult-far.ensures.turned c.side_set-far_set.ensures.same c.side_set-far_set.ensures.turned c.side_set-far_set.ensures.within).cut

pub disjoint_way-requires-2-clause-apart : goal.disjoint_way-requires-2-clause-apart
disjoint_way-requires-2-clause-apart c =
    far_apart c.args.top.now.plain c.rank-rank.ensures.roomed.tuple (omega (arith, c.quadrant-set.ensures.low, c.rank-rank.ensures.rank)) c.args.first_mult c.args.second_mult c.args.first_set c.args.second_set c.requires.first c.requires.second c.requires.peak c.serving_letter-mult.result c.quadrant-set.result
    (c.serving_letter-mult.ensures c.quadrant-set.result (subst (λ (z : ℕ). IsQuadrant z c.args.first_set c.args.second_set c.serving_letter-mult.result c.quadrant-set.result) c.rank-rank.ensures.rank c.quadrant-set.ensures.quadrant))
    c.side_mult-far.result c.side_set-far_set.result
    (side_made c.rank-rank.result c.args.top.now.plain.rank c.serving_letter-mult.result c.args.second_mult c.args.second_set c.side_mult-far.result c.side_set-far_set.result c.rank-rank.ensures.rank c.requires.second c.side_mult-far.ensures.same c.side_mult-far.ensures.turned c.side_set-far_set.ensures.same c.side_set-far_set.ensures.turned c.side_set-far_set.ensures.within)

pub disjoint_way-requires-2-clause-peak : goal.disjoint_way-requires-2-clause-peak
disjoint_way-requires-2-clause-peak c =
    far_peak c.args.top.now.plain c.rank-rank.ensures.roomed.tuple (omega (arith, c.quadrant-set.ensures.low, c.rank-rank.ensures.rank)) c.args.first_mult c.args.second_mult c.args.first_set c.args.second_set c.requires.first c.requires.second c.requires.peak c.serving_letter-mult.result c.quadrant-set.result
    (c.serving_letter-mult.ensures c.quadrant-set.result (subst (λ (z : ℕ). IsQuadrant z c.args.first_set c.args.second_set c.serving_letter-mult.result c.quadrant-set.result) c.rank-rank.ensures.rank c.quadrant-set.ensures.quadrant))
    c.side_mult-far.result c.side_set-far_set.result
    (side_made c.rank-rank.result c.args.top.now.plain.rank c.serving_letter-mult.result c.args.second_mult c.args.second_set c.side_mult-far.result c.side_set-far_set.result c.rank-rank.ensures.rank c.requires.second c.side_mult-far.ensures.same c.side_mult-far.ensures.turned c.side_set-far_set.ensures.same c.side_set-far_set.ensures.turned c.side_set-far_set.ensures.within)

pub returns-clause-lowered : goal.returns-clause-lowered
returns-clause-lowered c =
    let joined : c.extend_from_slice.new.self.items ≡ c.in_ok-way.way.items ++ c.in_ok-disjoint_way.field-0.items = search rules in
    lowered_by_quadrant c.args.top.now.plain c.rank-rank.ensures.roomed.tuple (omega (arith, c.quadrant-set.ensures.low, c.rank-rank.ensures.rank)) c.args.first_mult c.args.second_mult c.args.first_set c.args.second_set c.requires.first c.requires.second c.requires.peak c.serving_letter-mult.result c.quadrant-set.result
    (c.serving_letter-mult.ensures c.quadrant-set.result (subst (λ (z : ℕ). IsQuadrant z c.args.first_set c.args.second_set c.serving_letter-mult.result c.quadrant-set.result) c.rank-rank.ensures.rank c.quadrant-set.ensures.quadrant))
    c.side_mult-near.result c.side_set-near_set.result c.side_mult-far.result c.side_set-far_set.result
    (side_made c.rank-rank.result c.args.top.now.plain.rank c.serving_letter-mult.result c.args.first_mult c.args.first_set c.side_mult-near.result c.side_set-near_set.result c.rank-rank.ensures.rank c.requires.first c.side_mult-near.ensures.same c.side_mult-near.ensures.turned c.side_set-near_set.ensures.same c.side_set-near_set.ensures.turned c.side_set-near_set.ensures.within)
    (side_made c.rank-rank.result c.args.top.now.plain.rank c.serving_letter-mult.result c.args.second_mult c.args.second_set c.side_mult-far.result c.side_set-far_set.result c.rank-rank.ensures.rank c.requires.second c.side_mult-far.ensures.same c.side_mult-far.ensures.turned c.side_set-far_set.ensures.same c.side_set-far_set.ensures.turned c.side_set-far_set.ensures.within)
    c.in_ok-way.way.items c.in_ok-disjoint_way.field-0.items c.in_ok-way.ensures.lowered c.in_ok-disjoint_way.ensures.lowered c.extend_from_slice.new.self.items joined
