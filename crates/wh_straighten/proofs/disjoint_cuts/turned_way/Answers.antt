use Rattle.std.proofs.Common.{ℕ, ◌*◌, ◌^◌, ◌<◌, ◌∷◌, [], ◌∙◌, sym, ap₂, subst, arith}
use Rattle.std.proofs.lemmas.Result.{IfOk-weaker}
use Rattle.wh_words.specs.LetterSets.{in_set}
use Rattle.wh_words.specs.Moves.{Move, IsCut}
use Rattle.wh_peak.specs.Relations.{HasLetters}
use Rattle.wh_peak.proofs.CutForms.{union_without}
use Rattle.wh_straighten.proofs.LoweredRows.{made_is, made_back, before_cut, row_three}
use Rattle.wh_straighten.proofs.disjoint_cuts.turned_way.Goals as goal

pub cut_move-requires : goal.cut_move-requires
unfolding union_without
cut_move-requires c =
    subst (λ (z : ℕ). IsCut z c.args.second_mult c.united_without-widened.result) (sym c.rank-rank.ensures.rank)
    (before_cut c.args.top.now.plain c.rank-rank.ensures.roomed.tuple (omega (arith, c.united_without-widened.ensures.low, c.rank-rank.ensures.rank)) c.args.first_mult c.args.second_mult c.args.first_set c.args.second_set c.requires.first c.requires.second c.requires.apart c.requires.peak c.united_without-widened.result c.requires.other c.requires.back (subst (λ (z : ℕ). c.united_without-widened.result < 2 ^ (2 * z)) c.rank-rank.ensures.rank c.united_without-widened.ensures.within) (subst (λ (z : ℕ). HasLetters z c.united_without-widened.result (union_without (in_set c.args.second_set) (in_set c.args.first_set) c.args.first_mult)) c.rank-rank.ensures.rank c.united_without-widened.ensures.letters))

pub returns-clause-lowered : goal.returns-clause-lowered
unfolding union_without
returns-clause-lowered c =
    IfOk-weaker c.two_moves.result _ _
    (λ v e. row_three c.args.top.now.plain c.rank-rank.ensures.roomed.tuple (omega (arith, c.united_without-widened.ensures.low, c.rank-rank.ensures.rank)) c.args.first_mult c.args.second_mult c.args.first_set c.args.second_set c.requires.first c.requires.second c.requires.apart c.requires.peak v.items c.united_without-widened.result c.requires.other c.requires.there c.requires.back
    (before_cut c.args.top.now.plain c.rank-rank.ensures.roomed.tuple (omega (arith, c.united_without-widened.ensures.low, c.rank-rank.ensures.rank)) c.args.first_mult c.args.second_mult c.args.first_set c.args.second_set c.requires.first c.requires.second c.requires.apart c.requires.peak c.united_without-widened.result c.requires.other c.requires.back (subst (λ (z : ℕ). c.united_without-widened.result < 2 ^ (2 * z)) c.rank-rank.ensures.rank c.united_without-widened.ensures.within) (subst (λ (z : ℕ). HasLetters z c.united_without-widened.result (union_without (in_set c.args.second_set) (in_set c.args.first_set) c.args.first_mult)) c.rank-rank.ensures.rank c.united_without-widened.ensures.letters)) (subst (λ (z : ℕ). HasLetters z c.united_without-widened.result (union_without (in_set c.args.second_set) (in_set c.args.first_set) c.args.first_mult)) c.rank-rank.ensures.rank c.united_without-widened.ensures.letters)
    (e ∙ ap₂ (λ (m j : Move). m ∷ j ∷ []) (made_is c.rank-rank.result c.args.top.now.plain.rank c.args.second_mult c.united_without-widened.result c.cut_move.result c.cut_move.ensures.is c.rank-rank.ensures.rank) (made_back c.rank-rank.result c.args.top.now.plain.rank c.args.first_mult c.args.first_set c.cut_move-2.result c.inverse.result c.inverse.ensures c.cut_move-2.ensures.is c.rank-rank.ensures.rank)))
    c.two_moves.ensures
