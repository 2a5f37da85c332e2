use Rattle.std.proofs.Common.{ℕ, sym, subst}
use Rattle.wh_data.specs.AnswerData.{plains, parts_of}
use Rattle.wh_cert.specs.Demands.{relators_asked}
use Rattle.wh_cert.specs.Judged.{Judges}
use Rattle.wh_cert.specs.VertexWays.{AreVertices}
use Rattle.wh_cert.proofs.FollowedWays.{level_vertices}
use Rattle.wh_cert.proofs.relators.judge_relators.Goals as goal

pub judge_each_relator-requires-clause-vertices : goal.judge_each_relator-requires-clause-vertices
judge_each_relator-requires-clause-vertices c =
    subst (λ (n : ℕ). AreVertices n (plains c.args.parts.now.vertices)) (sym c.rank.ensures.rank)
    (level_vertices c.args.end.now.plain.rank c.args.end.now.plain (plains c.args.parts.now.vertices) c.requires.level c.requires.parts.vertices)

pub returns : goal.returns
returns c = subst (λ (n : ℕ). Judges (relators_asked c.args.place n (parts_of c.args.parts.now)) c.judge_each_relator.result) c.rank.ensures.rank c.judge_each_relator.ensures
