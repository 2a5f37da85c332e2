use Rattle.std.proofs.Common.{Bool, List, Option, refl, subst}
use Rattle.wh_words.specs.Moves.{Move}
use Rattle.wh_cert.specs.Demands.{is_identity}
use Rattle.wh_cert.specs.VertexWays.{TellsIdentity}
use Rattle.wh_cert.proofs.RelatorComposites.{wide_stop, then_identity}
use Rattle.wh_cert.proofs.relators.judge_composite.Goals as goal

pub returns-in_default : goal.returns-in_default
returns-in_default c =
    wide_stop c.args.place c.args.rank c.args.relator.now
    (subst (λ (o : Option Bool). TellsIdentity c.args.rank c.args.relator.now.moves o) c.in_default.is
    (subst (λ (ms : List Move). TellsIdentity c.args.rank ms c.in_ok-trivial.field-0) c.items.ensures c.in_ok-trivial.ensures))

pub returns : goal.returns
returns c =
    then_identity c.args.place c.args.rank c.args.relator.now c.in-Some.trivial c.ask.result
    (subst (λ (o : Option Bool). TellsIdentity c.args.rank c.args.relator.now.moves o) c.in-Some.is
    (subst (λ (ms : List Move). TellsIdentity c.args.rank ms c.in_ok-trivial.field-0) c.items.ensures c.in_ok-trivial.ensures))
    (c.ask.ensures (is_identity c.args.rank c.args.relator.now) refl)
