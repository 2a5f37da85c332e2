use Rattle.std.proofs.Common.{rules, arith, IsTrue}
use Rattle.wh_graph.proofs.LevelMoves.{made_swap_level}
use Rattle.wh_words.specs.Levels.{IsLevelMove}
use Rattle.wh_cert.specs.Listings.{SwapsStay}
use Rattle.wh_cert.specs.Orbits.{HasEarlierImage}
use Rattle.wh_cert.proofs.JudgedOrbits.{leads_out}
use Rattle.wh_cert.proofs.closure.has_earlier_swap.Goals as goal

pub is_earlier-requires-clause-level : goal.is_earlier-requires-clause-level
is_earlier-requires-clause-level c =
    made_swap_level c.args.tuple.now.plain c.rank-rank.ensures.roomed.tuple c.rank-rank.result c.rank-rank.ensures.rank (omega (arith, c.rank-rank.ensures.rank, c.get-k-end.ensures.same, c.get-k-end.ensures.greatest)) c.unwrap.result c.loop-k.k
    (search rules) (omega arith) (omega arith)

pub returns-in_err-earlier-clause-earlier : goal.returns-in_err-earlier-clause-earlier
returns-in_err-earlier-clause-earlier c =
    let level : IsLevelMove c.args.tuple.now.plain c.unwrap.result =
    made_swap_level c.args.tuple.now.plain c.rank-rank.ensures.roomed.tuple c.rank-rank.result c.rank-rank.ensures.rank (omega (arith, c.rank-rank.ensures.rank, c.get-k-end.ensures.same, c.get-k-end.ensures.greatest)) c.unwrap.result c.loop-k.k
    (search rules) (omega arith) (omega arith) in
    leads_out c.args.listed.now c.args.tuple.now.plain c.unwrap.result (λ b. SwapsStay c.args.listed.now c.args.tuple.now.plain × (IsTrue b → HasEarlierImage c.args.listed.now c.args.tuple.now.plain c.args.place)) c.from_residual.result level
    c.in_err-earlier.ensures.earlier (search rules)
