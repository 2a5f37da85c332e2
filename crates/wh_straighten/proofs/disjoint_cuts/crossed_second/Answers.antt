use Rattle.std.proofs.Common.{arith, ap, sym, ◌∙◌, ◌/◌}
use Rattle.std.proofs.lemmas.Result.{IfOk-weaker}
use Rattle.wh_peak.proofs.CutForms.{union_without}
use Rattle.wh_straighten.proofs.LoweredRows.{out_made_back, into_made_back, second_apart, row_second}
use Rattle.wh_straighten.proofs.disjoint_cuts.crossed_second.Goals as goal

pub cut_move-requires : goal.cut_move-requires
unfolding union_without
cut_move-requires c = out_made_back c.args.top.now.plain c.rank-rank.ensures.roomed.tuple (omega (arith, c.united_without-out.ensures.low, c.rank-rank.ensures.rank)) c.args.first_mult c.args.second_mult c.args.first_set c.args.second_set c.requires.first c.requires.second c.requires.apart c.requires.peak c.requires.other c.requires.there c.requires.back c.rank-rank.result c.inverse-from.result c.united_without-out.result c.rank-rank.ensures.rank c.inverse-from.ensures c.united_without-out.ensures.within c.united_without-out.ensures.letters

pub cut_move-requires-2 : goal.cut_move-requires-2
cut_move-requires-2 c = into_made_back c.args.top.now.plain c.rank-rank.ensures.roomed.tuple (omega (arith, c.united_without-out.ensures.low, c.rank-rank.ensures.rank)) c.args.first_mult c.args.second_mult c.args.first_set c.args.second_set c.requires.first c.requires.second c.requires.apart c.requires.peak c.requires.other c.requires.there c.requires.back c.rank-rank.result c.inverse-from.result c.turned-into.result c.rank-rank.ensures.rank c.inverse-from.ensures c.turned-into.ensures

pub carried_way-requires-clause-apart : goal.carried_way-requires-clause-apart
carried_way-requires-clause-apart c q = second_apart c.args.top.now.plain c.rank-rank.ensures.roomed.tuple (omega (arith, c.united_without-out.ensures.low, c.rank-rank.ensures.rank)) c.args.first_mult c.args.second_mult c.args.first_set c.args.second_set c.requires.first c.requires.second c.requires.apart c.requires.peak c.requires.other c.requires.there c.requires.back (ap (λ z. z / 2) (sym c.inverse-from.ensures) ∙ q)

pub returns-clause-lowered : goal.returns-clause-lowered
unfolding union_without
returns-clause-lowered c =
    IfOk-weaker c.carried_way.result _ _
    (λ v w. row_second c.args.top.now.plain c.rank-rank.ensures.roomed.tuple (omega (arith, c.united_without-out.ensures.low, c.rank-rank.ensures.rank)) c.args.first_mult c.args.second_mult c.args.first_set c.args.second_set c.requires.first c.requires.second c.requires.apart c.requires.peak c.requires.other c.requires.there c.requires.back v.items c.cut_move.result c.cut_move-2.result c.inverse.result c.rank-rank.result c.inverse-from.result c.united_without-out.result c.turned-into.result c.rank-rank.ensures.rank c.inverse-from.ensures
    c.united_without-out.ensures.within c.united_without-out.ensures.letters c.turned-into.ensures c.cut_move.ensures.is c.cut_move-2.ensures.is c.inverse.ensures w c.requires.longer)
    c.carried_way.ensures.way
