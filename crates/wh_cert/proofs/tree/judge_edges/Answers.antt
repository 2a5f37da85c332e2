use Rattle.std.proofs.Common.{ℕ, sym, subst}
use Rattle.wh_level.specs.Trees.{Parents}
use Rattle.wh_data.specs.AnswerData.{plains, parts_of}
use Rattle.wh_data.specs.RootPlaces.{root_place}
use Rattle.wh_cert.specs.Demands.{tree_asked}
use Rattle.wh_cert.specs.Judged.{Judges}
use Rattle.wh_cert.specs.WaysBack.{IsRootOf}
use Rattle.wh_cert.proofs.JudgedTrees.{own_root, one_line_less}
use Rattle.wh_cert.proofs.tree.judge_edges.Goals as goal

pub judge_each_edge-requires-clause-ranks : goal.judge_each_edge-requires-clause-ranks
judge_each_edge-requires-clause-ranks c = (c.args.end.now.plain.rank, c.requires.parts.vertices, c.requires.parts.parents)

pub judge_each_edge-requires-clause-lines : goal.judge_each_edge-requires-clause-lines
judge_each_edge-requires-clause-lines c = one_line_less c.args.end.now.plain.rank c.args.end.now.plain (parts_of c.args.parts.now) c.requires.parts

pub returns : goal.returns
returns c =
    let root : IsRootOf c.items.result.now (root_place c.args.end.now.plain (plains c.args.parts.now.vertices)) =
    subst (λ (es : Parents). IsRootOf es (root_place c.args.end.now.plain (plains c.args.parts.now.vertices))) (sym c.items.ensures) (own_root c.args.end.now.plain.rank c.args.end.now.plain (parts_of c.args.parts.now) c.requires.parts) in
    subst (λ (r : ℕ). Judges (tree_asked c.args.place c.args.heads.now r (parts_of c.args.parts.now)) c.judge_each_edge.result) (c.root_of-root.ensures (root_place c.args.end.now.plain (plains c.args.parts.now.vertices)) root) c.judge_each_edge.ensures
