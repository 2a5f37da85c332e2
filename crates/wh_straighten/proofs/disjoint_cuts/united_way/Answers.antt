use Rattle.std.proofs.Common.{ℕ, ◌*◌, ◌^◌, ◌<◌, ◌∷◌, [], ◌∙◌, sym, ap, subst, arith}
use Rattle.std.proofs.lemmas.Result.{IfOk-weaker}
use Rattle.wh_words.specs.LetterSets.{in_set}
use Rattle.wh_words.specs.Moves.{Move, IsCut}
use Rattle.wh_words.specs.Moves.Kind.{cut}
use Rattle.wh_peak.specs.Relations.{HasLetters}
use Rattle.wh_peak.proofs.CutForms.{union_without}
use Rattle.wh_words.specs.Letters.{inverse_letter}
use Rattle.wh_straighten.proofs.LoweredRows.{made_is, united_cut, row_one}
use Rattle.wh_straighten.proofs.disjoint_cuts.united_way.Goals as goal

pub cut_move-requires : goal.cut_move-requires
unfolding union_without
cut_move-requires c =
    subst (λ (z : ℕ). IsCut z c.inverse.result c.united_without-united.result) (sym c.rank-rank.ensures.rank)
    (subst (λ (z : ℕ). IsCut c.args.top.now.plain.rank z c.united_without-united.result) (sym c.inverse.ensures) (united_cut c.args.top.now.plain c.rank-rank.ensures.roomed.tuple (omega (arith, c.united_without-united.ensures.low, c.rank-rank.ensures.rank)) c.args.first_mult c.args.second_mult c.args.first_set c.args.second_set c.requires.first c.requires.second c.requires.apart c.requires.peak c.united_without-united.result c.requires.inverse (subst (λ (z : ℕ). c.united_without-united.result < 2 ^ (2 * z)) c.rank-rank.ensures.rank c.united_without-united.ensures.within) (subst (λ (z : ℕ). HasLetters z c.united_without-united.result (union_without (in_set c.args.first_set) (in_set c.args.second_set) c.args.first_mult)) c.rank-rank.ensures.rank c.united_without-united.ensures.letters)))

pub returns-clause-lowered : goal.returns-clause-lowered
unfolding union_without
returns-clause-lowered c =
    IfOk-weaker c.one_move.result _ _
    (λ v e. row_one c.args.top.now.plain c.rank-rank.ensures.roomed.tuple (omega (arith, c.united_without-united.ensures.low, c.rank-rank.ensures.rank)) c.args.first_mult c.args.second_mult c.args.first_set c.args.second_set c.requires.first c.requires.second c.requires.apart c.requires.peak v.items c.united_without-united.result c.requires.inverse
    (united_cut c.args.top.now.plain c.rank-rank.ensures.roomed.tuple (omega (arith, c.united_without-united.ensures.low, c.rank-rank.ensures.rank)) c.args.first_mult c.args.second_mult c.args.first_set c.args.second_set c.requires.first c.requires.second c.requires.apart c.requires.peak c.united_without-united.result c.requires.inverse (subst (λ (z : ℕ). c.united_without-united.result < 2 ^ (2 * z)) c.rank-rank.ensures.rank c.united_without-united.ensures.within) (subst (λ (z : ℕ). HasLetters z c.united_without-united.result (union_without (in_set c.args.first_set) (in_set c.args.second_set) c.args.first_mult)) c.rank-rank.ensures.rank c.united_without-united.ensures.letters)) (subst (λ (z : ℕ). HasLetters z c.united_without-united.result (union_without (in_set c.args.first_set) (in_set c.args.second_set) c.args.first_mult)) c.rank-rank.ensures.rank c.united_without-united.ensures.letters)
    (e ∙ ap (λ (m : Move). m ∷ []) (made_is c.rank-rank.result c.args.top.now.plain.rank (inverse_letter c.args.first_mult) c.united_without-united.result c.cut_move.result
    (c.cut_move.ensures.is ∙ ap (λ (z : ℕ). record { rank = c.rank-rank.result; kind = cut z c.united_without-united.result }) c.inverse.ensures) c.rank-rank.ensures.rank)))
    c.one_move.ensures
