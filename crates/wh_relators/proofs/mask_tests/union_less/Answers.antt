use Rattle.std.proofs.Common.{ap, ◌∙◌}
use Rattle.wh_relators.specs.Cuts.{others}
use Rattle.wh_relators.proofs.SetComplements.{union_less_is}
use Rattle.wh_relators.proofs.mask_tests.union_less.Goals as goal

pub returns : goal.returns
returns c =
    c.others-2.ensures
    ∙ union_less_is c.args.rank c.args.a c.args.b c.args.letter c.others.result c.with.result (c.others.ensures ∙ ap (others c.args.rank) c.union.ensures) c.with.ensures.same c.with.ensures.others
