use Rattle.wh_composites.proofs.SignedPerms.{carried_from, carried_valid, carried_image}
use Rattle.wh_composites.proofs.signed_perm.SignedPerm.carry.Goals as goal

pub invariant_of-result : goal.invariant_of-result
invariant_of-result c =
    carried_valid c.args.rank c.args.a c.args.b _ c.get.ensures.greatest c.requires.a_of_rank c.requires.b_of_rank c.requires.apart
    (carried_from c.generators-images.result c.args.a c.args.b c.index.result c.index-2.result c.signed.result c.signed-2.result c.inverse.result c.generators-images.ensures.count c.generators-images.ensures.letters
    c.index.ensures.below c.index-2.ensures.below c.requires.apart c.index.ensures.same c.index-2.ensures.same c.inverse.ensures c.signed.ensures c.signed-2.ensures)

pub returns-clause-carries : goal.returns-clause-carries
returns-clause-carries c =
    carried_image c.args.rank c.args.a c.args.b _ c.get.ensures.greatest c.requires.a_of_rank c.requires.b_of_rank c.requires.apart
    (carried_from c.generators-images.result c.args.a c.args.b c.index.result c.index-2.result c.signed.result c.signed-2.result c.inverse.result c.generators-images.ensures.count c.generators-images.ensures.letters
    c.index.ensures.below c.index-2.ensures.below c.requires.apart c.index.ensures.same c.index-2.ensures.same c.inverse.ensures c.signed.ensures c.signed-2.ensures)
