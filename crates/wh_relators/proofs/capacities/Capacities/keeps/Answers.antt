use Rattle.std.proofs.Common.{nat_eq, slice_index_or, ap, ap₂, ◌∙◌}
use Rattle.wh_relators.specs.Cuts.{Cut}
use Rattle.wh_relators.proofs.capacities.Capacities.keeps.Goals as goal

pub returns : goal.returns
returns c =
    ap₂ nat_eq
    (ap (λ i. slice_index_or c.args.self.now.sets i 0) (c.bits.ensures ∙ ap (λ (z : Cut). z.set) c.x.view_is))
    (ap (λ i. slice_index_or c.args.self.now.degrees i 0) (c.index.ensures.same ∙ ap (λ (z : Cut). z.mult) c.x.view_is))
