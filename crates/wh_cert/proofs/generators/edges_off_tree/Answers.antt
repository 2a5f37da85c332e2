use Rattle.std.proofs.Common.{ℕ, sym, subst, arith}
use Rattle.wh_data.specs.AnswerData.{plains}
use Rattle.wh_cert.specs.VertexWays.{AreVertices}
use Rattle.wh_cert.proofs.FollowedWays.{level_vertices}
use Rattle.wh_cert.proofs.generators.edges_off_tree.Goals as goal

pub off_tree-requires-clause-low : goal.off_tree-requires-clause-low
off_tree-requires-clause-low c = omega (arith, c.requires.parts.low, c.rank.ensures.rank)

pub off_tree-requires-clause-vertices : goal.off_tree-requires-clause-vertices
off_tree-requires-clause-vertices c =
    subst (λ (n : ℕ). AreVertices n (plains c.args.parts.now.vertices)) (sym c.rank.ensures.rank)
    (level_vertices c.args.end.now.plain.rank c.args.end.now.plain (plains c.args.parts.now.vertices) c.requires.level c.requires.parts.vertices)
