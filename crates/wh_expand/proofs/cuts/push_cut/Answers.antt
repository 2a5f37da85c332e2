use Rattle.std.proofs.Common.{◌+◌, List, refl, sym, ◌∙◌, subst, arith}
use Rattle.std.proofs.lemmas.Bool.{true≢false}
use Rattle.wh_words.specs.Moves.{Move}
use Rattle.wh_words.specs.Moves.Kind.{cut}
use Rattle.wh_expand.specs.FirstLevelMoves.{AreLevelMovesBefore}
use Rattle.wh_expand.proofs.FirstMoves.{push_set, skip_identity, skip_no_cut}
use Rattle.wh_expand.proofs.cuts.push_cut.Goals as goal

pub returns-in_ok-push : goal.returns-in_ok-push
returns-in_ok-push c =
    subst (λ (ms : List Move). AreLevelMovesBefore c.args.tuple.now.plain (cut c.args.mult (c.args.set + 1)) ms) (sym c.in_ok-push.ensures.items)
    (push_set c.args.tuple.now.plain c.args.moves.now.items c.rank.result c.args.mult c.args.set c.rank.ensures.rank c.in-Some.m c.in-Some.ensures.some c.requires.before
    c.rank.ensures.roomed.tuple (omega (arith, c.rank.ensures.rank, c.requires.rank)) c.in-Some.ensures.valid c.requires.keeps (λ q. true≢false (sym (c.is_identity.ensures.1 q) ∙ c.if-not-is_identity.true)))

pub returns-else-not-is_identity : goal.returns-else-not-is_identity
returns-else-not-is_identity c =
    skip_identity c.args.tuple.now.plain c.args.moves.now.items c.rank.result c.args.mult c.args.set c.rank.ensures.rank c.in-Some.m c.in-Some.ensures.some c.requires.before
    (c.is_identity.ensures.0 c.if-not-is_identity.false)

pub returns-in_default : goal.returns-in_default
returns-in_default c =
    skip_no_cut c.args.tuple.now.plain c.args.moves.now.items c.rank.result c.args.mult c.args.set c.rank.ensures.rank c.requires.before (c.in_default.ensures.none.0 refl)
