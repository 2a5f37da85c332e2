use Rattle.std.proofs.Common.{ℕ, subst}
use Rattle.wh_straighten.specs.Lowering.{IsQuadrant}
use Rattle.wh_straighten.proofs.LoweredCuts.{quadrant_cut, shortens_any}
use Rattle.wh_straighten.proofs.any_cuts.shortens_at.Goals as goal

pub shortens-requires : goal.shortens-requires
shortens-requires c =
    quadrant_cut c.args.top.now.plain.rank c.args.first_set c.args.second_set c.args.letter c.quadrant.result c.requires.of_rank
    (subst (λ (z : ℕ). IsQuadrant z c.args.first_set c.args.second_set c.args.letter c.quadrant.result) c.rank.ensures.rank c.quadrant.ensures.quadrant) c.requires.split

pub returns : goal.returns
returns c =
    shortens_any c.args.top.now.plain c.args.first_set c.args.second_set c.args.letter c.quadrant.result c.shortens.result
    (subst (λ (z : ℕ). IsQuadrant z c.args.first_set c.args.second_set c.args.letter c.quadrant.result) c.rank.ensures.rank c.quadrant.ensures.quadrant) c.shortens.ensures
