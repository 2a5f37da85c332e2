use Rattle.wh_relators.proofs.SetComplements.{others_is}
use Rattle.wh_relators.proofs.mask_tests.others.Goals as goal

pub returns : goal.returns
returns c = others_is c.args.rank c.args.a c.complement.result c.complement.ensures.below c.complement.ensures.within
