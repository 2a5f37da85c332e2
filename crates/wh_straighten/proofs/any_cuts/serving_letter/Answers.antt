use Rattle.std.proofs.Common.{arith, inl, inr}
use Rattle.wh_words.proofs.LetterMaps.{inverse_below}
use Rattle.wh_straighten.proofs.LoweredCuts.{split_at, split_turned, serves_at, last_at}
use Rattle.wh_straighten.proofs.any_cuts.serving_letter.Goals as goal

pub returns-then-shortens_at : goal.returns-then-shortens_at
returns-then-shortens_at c =
    serves_at c.args.top.now.plain c.args.first_set c.args.second_set c.args.first_mult c.requires.first.of_rank (inl (split_at c.args.top.now.plain.rank c.args.first_mult c.args.first_set c.requires.first)) c.if-shortens_at.ensures

pub shortens_at-requires-2-clause-of_rank : goal.shortens_at-requires-2-clause-of_rank
shortens_at-requires-2-clause-of_rank c = omega (arith, c.inverse-first_back.ensures, inverse_below c.args.top.now.plain.rank c.args.first_mult c.requires.first.of_rank)

pub shortens_at-requires-2-clause-split : goal.shortens_at-requires-2-clause-split
shortens_at-requires-2-clause-split c = inl (split_turned c.args.top.now.plain.rank c.args.first_mult c.args.first_set c.inverse-first_back.result c.inverse-first_back.ensures c.requires.first)

pub returns-then-shortens_at-2 : goal.returns-then-shortens_at-2
returns-then-shortens_at-2 c =
    serves_at c.args.top.now.plain c.args.first_set c.args.second_set c.inverse-first_back.result (omega (arith, c.inverse-first_back.ensures, inverse_below c.args.top.now.plain.rank c.args.first_mult c.requires.first.of_rank))
    (inl (split_turned c.args.top.now.plain.rank c.args.first_mult c.args.first_set c.inverse-first_back.result c.inverse-first_back.ensures c.requires.first)) c.if-shortens_at-2.ensures

pub returns-then-shortens_at-3 : goal.returns-then-shortens_at-3
returns-then-shortens_at-3 c =
    serves_at c.args.top.now.plain c.args.first_set c.args.second_set c.args.second_mult c.requires.second.of_rank (inr (split_at c.args.top.now.plain.rank c.args.second_mult c.args.second_set c.requires.second)) c.if-shortens_at-3.ensures

pub returns : goal.returns
returns c =
    last_at c.args.top.now.plain c.rank.ensures.roomed.tuple c.args.first_set c.args.second_set c.args.first_mult c.args.second_mult c.inverse-first_back.result c.inverse.result c.requires.first c.requires.second c.requires.peak
    c.inverse-first_back.ensures c.inverse.ensures c.if-shortens_at.ensures c.if-shortens_at-2.ensures c.if-shortens_at-3.ensures
