use Rattle.std.proofs.Common.{rules, arith, IsTrue}
use Rattle.wh_graph.proofs.LevelMoves.{made_invert_level}
use Rattle.wh_words.specs.Levels.{IsLevelMove}
use Rattle.wh_cert.specs.Orbits.{IsPermutedIn, HasEarlierImage}
use Rattle.wh_cert.proofs.JudgedOrbits.{leads_out}
use Rattle.wh_cert.proofs.closure.has_earlier_image.Goals as goal

pub is_earlier-requires-clause-level : goal.is_earlier-requires-clause-level
is_earlier-requires-clause-level c =
    made_invert_level c.args.tuple.now.plain c.rank.ensures.roomed.tuple c.rank.result c.rank.ensures.rank (search rules) c.unwrap-first.result 1
    (search rules) (omega arith) (search rules)

pub returns-in_err-inverted-clause-earlier : goal.returns-in_err-inverted-clause-earlier
returns-in_err-inverted-clause-earlier c =
    let level : IsLevelMove c.args.tuple.now.plain c.unwrap-first.result =
    made_invert_level c.args.tuple.now.plain c.rank.ensures.roomed.tuple c.rank.result c.rank.ensures.rank (search rules) c.unwrap-first.result 1
    (search rules) (omega arith) (search rules) in
    leads_out c.args.listed.now c.args.tuple.now.plain c.unwrap-first.result (λ b. IsPermutedIn c.args.listed.now c.args.tuple.now.plain × (IsTrue b → HasEarlierImage c.args.listed.now c.args.tuple.now.plain c.args.place)) c.from_residual-in_err-inverted.result level
    c.in_err-inverted.ensures.earlier (search rules)
