use Rattle.std.proofs.Common.{◌+◌, not, sym, ap, ◌∙◌, drop, arith}
use Rattle.std.specs.Prelude.{◌&&◌}
use Rattle.wh_relators.specs.Instances.{is_proper}
use Rattle.wh_relators.proofs.WordLists.{identity_is, proper_next, proper_end}
use Rattle.wh_relators.proofs.words.is_proper.Goals as goal

pub loop-m-preserved : goal.loop-m-preserved
loop-m-preserved c =
    c.loop-m.invariant
    ∙ (proper_next c.args.moves.now c.loop-m.m-index c.m-item.result c.is_identity.result (omega arith) c.m-item.is (identity_is c.m-item.result.kind c.is_identity.result c.is_identity.ensures)
    ∙ ap (λ b. not b && is_proper (drop (c.loop-m.m-index + 1) c.args.moves.now)) c.if-is_identity.false)

pub returns-then-is_identity : goal.returns-then-is_identity
returns-then-is_identity c =
    sym (c.loop-m.invariant
    ∙ (proper_next c.args.moves.now c.loop-m.m-index c.m-item.result c.is_identity.result (omega arith) c.m-item.is (identity_is c.m-item.result.kind c.is_identity.result c.is_identity.ensures)
    ∙ ap (λ b. not b && is_proper (drop (c.loop-m.m-index + 1) c.args.moves.now)) c.if-is_identity.true))

pub returns : goal.returns
returns c = sym (c.loop-m.invariant ∙ proper_end c.args.moves.now c.loop-m.m-index (omega arith))
