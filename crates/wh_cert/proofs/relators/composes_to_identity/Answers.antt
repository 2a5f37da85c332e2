use Rattle.std.proofs.Common.{rules}
use Rattle.wh_cert.proofs.RelatorComposites.{told_identity}
use Rattle.wh_cert.proofs.relators.composes_to_identity.Goals as goal

pub returns-in-Ok : goal.returns-in-Ok
returns-in-Ok c = told_identity c.args.rank c.args.moves.now c.in-Ok.images (search rules) (search rules) c.is_identity.ensures
