use Rattle.std.proofs.Common.{◌∷◌, [], ◌∙◌, ap₂, arith}
use Rattle.std.proofs.lemmas.Result.{IfOk-weaker}
use Rattle.wh_words.specs.Moves.{Move}
use Rattle.wh_straighten.proofs.LoweredRows.{made_is, made_back, row_two_apart}
use Rattle.wh_straighten.proofs.disjoint_cuts.commuting_way.Goals as goal

pub returns-clause-lowered : goal.returns-clause-lowered
returns-clause-lowered c =
    IfOk-weaker c.two_moves.result _ _
    (λ v e. row_two_apart c.args.top.now.plain c.rank-rank.ensures.roomed.tuple (omega (arith, c.cut_move.ensures.low, c.rank-rank.ensures.rank)) c.args.first_mult c.args.second_mult c.args.first_set c.args.second_set c.requires.first c.requires.second c.requires.apart c.requires.peak v.items c.requires.other c.requires.there c.requires.back
    (e ∙ ap₂ (λ (m j : Move). m ∷ j ∷ []) (made_is c.rank-rank.result c.args.top.now.plain.rank c.args.second_mult c.args.second_set c.cut_move.result c.cut_move.ensures.is c.rank-rank.ensures.rank) (made_back c.rank-rank.result c.args.top.now.plain.rank c.args.first_mult c.args.first_set c.cut_move-2.result c.inverse.result c.inverse.ensures c.cut_move-2.ensures.is c.rank-rank.ensures.rank)))
    c.two_moves.ensures
