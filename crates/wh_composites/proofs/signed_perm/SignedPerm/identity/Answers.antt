use Rattle.wh_composites.proofs.SignedPerms.{identity_image, identity_valid}
use Rattle.wh_composites.proofs.signed_perm.SignedPerm.identity.Goals as goal

pub invariant_of-result : goal.invariant_of-result
invariant_of-result c = identity_valid c.args.rank c.generators.result c.get.ensures.greatest c.generators.ensures.count c.generators.ensures.letters

pub returns-clause-leaves : goal.returns-clause-leaves
returns-clause-leaves c = identity_image c.args.rank c.generators.result c.get.ensures.greatest c.generators.ensures.letters
