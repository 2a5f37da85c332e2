use Rattle.std.proofs.Common.{◌∙◌}
use Rattle.wh_relators.proofs.SetComplements.{all_but_is}
use Rattle.wh_relators.proofs.mask_tests.all_but.Goals as goal

pub returns : goal.returns
returns c = c.others.ensures ∙ all_but_is c.args.rank c.args.letter c.empty.result c.with.result c.empty.ensures c.with.ensures.same c.with.ensures.others
