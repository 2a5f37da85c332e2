use Rattle.std.proofs.Common.{◌^◌, nat_eq, bit_and, ap, ap₂, ◌∙◌}
use Rattle.wh_relators.proofs.SetWords.{meet_is}
use Rattle.wh_relators.proofs.mask_tests.meet_in.Goals as goal

pub returns : goal.returns
returns c =
    ap₂ nat_eq (ap₂ bit_and c.bits.ensures c.bits-2.ensures) (c.count_sets.ensures ∙ ap (λ k. 2 ^ k) c.index.ensures.same)
    ∙ meet_is c.args.rank c.args.a c.args.b c.requires.first c.args.letter c.requires.letter
