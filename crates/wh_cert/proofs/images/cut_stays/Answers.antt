use Rattle.std.proofs.Common.{◌∙◌, ap, sym}
use Rattle.std.proofs.lemmas.Bool.{true≢false}
use Rattle.wh_words.specs.Moves.{cut_move}
use Rattle.wh_graph.proofs.LevelMoves.{made_cut_level}
use Rattle.wh_cert.proofs.Staying.{made_stays}
use Rattle.wh_cert.proofs.images.cut_stays.Goals as goal

pub image_is_in-requires-clause-level : goal.image_is_in-requires-clause-level
image_is_in-requires-clause-level c =
    made_cut_level c.args.tuple.now.plain c.rank.ensures.roomed.tuple c.rank.result c.rank.ensures.rank c.requires.rank c.in-Some.m c.args.mult c.args.set c.in-Some.ensures.some c.in-Some.ensures.valid c.requires.keeps
    (λ q. true≢false (sym (c.is_identity.ensures.1 q) ∙ c.if-is_identity.false))

pub returns-clause-stay : goal.returns-clause-stay
returns-clause-stay c =
    made_stays c.args.listed.now c.args.tuple.now.plain c.in-Some.m (cut_move c.args.tuple.now.plain.rank c.args.mult c.args.set) c.image_is_in.result
    (c.in-Some.ensures.some ∙ ap (λ r. cut_move r c.args.mult c.args.set) c.rank.ensures.rank)
    (made_cut_level c.args.tuple.now.plain c.rank.ensures.roomed.tuple c.rank.result c.rank.ensures.rank c.requires.rank c.in-Some.m c.args.mult c.args.set c.in-Some.ensures.some c.in-Some.ensures.valid c.requires.keeps
    (λ q. true≢false (sym (c.is_identity.ensures.1 q) ∙ c.if-is_identity.false)))
    c.image_is_in.ensures.is_in
