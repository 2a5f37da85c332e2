use Rattle.std.proofs.Common.{arith, ap, ◌∙◌, ◌/◌}
use Rattle.std.proofs.lemmas.Result.{IfOk-weaker}
use Rattle.wh_peak.proofs.CutForms.{union_without}
use Rattle.wh_straighten.proofs.LoweredRows.{out_made, into_made, first_apart, row_first}
use Rattle.wh_straighten.proofs.disjoint_cuts.crossed_first.Goals as goal

pub cut_move-requires : goal.cut_move-requires
cut_move-requires c = out_made c.args.top.now.plain c.rank-rank.ensures.roomed.tuple (omega (arith, c.united_without-into.ensures.low, c.rank-rank.ensures.rank)) c.args.first_mult c.args.second_mult c.args.first_set c.args.second_set c.requires.first c.requires.second c.requires.apart c.requires.peak c.requires.other c.requires.there c.requires.back c.rank-rank.result c.inverse-to.result c.turned-out.result c.rank-rank.ensures.rank c.inverse-to.ensures c.turned-out.ensures

pub cut_move-requires-2 : goal.cut_move-requires-2
unfolding union_without
cut_move-requires-2 c = into_made c.args.top.now.plain c.rank-rank.ensures.roomed.tuple (omega (arith, c.united_without-into.ensures.low, c.rank-rank.ensures.rank)) c.args.first_mult c.args.second_mult c.args.first_set c.args.second_set c.requires.first c.requires.second c.requires.apart c.requires.peak c.requires.other c.requires.there c.requires.back c.rank-rank.result c.inverse-to.result c.united_without-into.result c.rank-rank.ensures.rank c.inverse-to.ensures c.united_without-into.ensures.within c.united_without-into.ensures.letters

pub carried_way-requires-clause-apart : goal.carried_way-requires-clause-apart
carried_way-requires-clause-apart c q = first_apart c.args.top.now.plain c.rank-rank.ensures.roomed.tuple (omega (arith, c.united_without-into.ensures.low, c.rank-rank.ensures.rank)) c.args.first_mult c.args.second_mult c.args.first_set c.args.second_set c.requires.first c.requires.second c.requires.apart c.requires.peak c.requires.other c.requires.there c.requires.back (q ∙ ap (λ z. z / 2) c.inverse-to.ensures)

pub returns-clause-lowered : goal.returns-clause-lowered
unfolding union_without
returns-clause-lowered c =
    IfOk-weaker c.carried_way.result _ _
    (λ v w. row_first c.args.top.now.plain c.rank-rank.ensures.roomed.tuple (omega (arith, c.united_without-into.ensures.low, c.rank-rank.ensures.rank)) c.args.first_mult c.args.second_mult c.args.first_set c.args.second_set c.requires.first c.requires.second c.requires.apart c.requires.peak c.requires.other c.requires.there c.requires.back v.items c.cut_move.result c.cut_move-2.result c.rank-rank.result c.inverse-to.result c.turned-out.result c.united_without-into.result c.rank-rank.ensures.rank c.inverse-to.ensures c.turned-out.ensures
    c.united_without-into.ensures.within c.united_without-into.ensures.letters c.cut_move.ensures.is c.cut_move-2.ensures.is w c.requires.shorter)
    c.carried_way.ensures.way
