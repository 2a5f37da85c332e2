use Rattle.std.proofs.Common.{refl}
use Rattle.wh_cert.specs.Demands.{is_closed}
use Rattle.wh_cert.proofs.Judging.{one_met}
use Rattle.wh_cert.proofs.Staying.{same_images}
use Rattle.wh_cert.proofs.levels.judge_images.Goals as goal

pub returns-then-closed-clause-judges : goal.returns-then-closed-clause-judges
returns-then-closed-clause-judges c ts same =
    one_met c.args.place (is_closed ts c.args.tuple.now.plain) ((same_images c.args.listed.now ts c.args.tuple.now.plain same).0 (c.requires.closed c.if-closed.true))

pub returns-clause-judges : goal.returns-clause-judges
returns-clause-judges c ts same =
    let images = same_images c.args.listed.now ts c.args.tuple.now.plain same in
    c.ask.ensures (is_closed ts c.args.tuple.now.plain) refl (λ h. images.0 (c.in_ok-stays.ensures.are.0 h), λ all. c.in_ok-stays.ensures.are.1 (images.1 all))
