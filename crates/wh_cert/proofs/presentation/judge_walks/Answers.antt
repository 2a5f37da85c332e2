use Rattle.std.proofs.Common.{◌≡◌, ℕ, ◌+◌, ◌++◌, List, length, subst, arith}
use Rattle.wh_words.specs.Tuples.{TupleData}
use Rattle.wh_data.specs.AnswerData.{PartsData, parts_of}
use Rattle.wh_data.specs.Numberings.{tree_lines}
use Rattle.wh_data.specs.RootPlaces.{root_place}
use Rattle.wh_cert.specs.Demands.{Placed, tree_asked, generators_asked, relators_asked}
use Rattle.wh_cert.specs.Judged.{Judges}
use Rattle.wh_cert.proofs.Judging.{met_ok, judged_after}
use Rattle.wh_cert.proofs.JudgedTrees.{one_line_less}
use Rattle.wh_cert.proofs.Spanning.{level_and_tree}
use Rattle.wh_cert.proofs.presentation.judge_walks.Goals as goal

pub judge_edges-requires-clause-level : goal.judge_edges-requires-clause-level
judge_edges-requires-clause-level c =
    let p : PartsData = parts_of c.args.parts.now in
    let end : TupleData = c.args.end.now.plain in
    let tree : List Placed = tree_asked c.args.place c.args.tree_heads.now (root_place end p.vertices) p in
    (level_and_tree c.requires.level.0 c.args.place c.args.tree_heads.now end p c.requires.parts c.requires.level.1
    (met_ok tree c.judge_tree.result c.in_ok-judge_tree.field-0 c.judge_tree.ensures c.in_ok-judge_tree.was)).0

pub judge_edges-requires-clause-low : goal.judge_edges-requires-clause-low
judge_edges-requires-clause-low c =
    let p : PartsData = parts_of c.args.parts.now in
    let lines : tree_lines p + 1 ≡ length p.tree = one_line_less c.args.end.now.plain.rank c.args.end.now.plain p c.requires.parts in
    omega (arith, c.requires.low, c.requires.heads, lines, c.requires.parts.count, c.requires.parts.few)

pub returns : goal.returns
returns c =
    let p : PartsData = parts_of c.args.parts.now in
    let end : TupleData = c.args.end.now.plain in
    let tree : List Placed = tree_asked c.args.place c.args.tree_heads.now (root_place end p.vertices) p in
    let generators : List Placed = generators_asked (c.args.place + tree_lines p) p in
    let relators : List Placed = relators_asked (c.args.place + 2 + tree_lines p + length c.args.parts.now.generators) end.rank p in
    let first : c.args.place + length c.args.tree_heads.now ≡ c.args.place + tree_lines p = omega (arith, c.requires.heads) in
    let second : c.args.place + length c.args.tree_heads.now + 2 + length c.args.parts.now.generators ≡ c.args.place + 2 + tree_lines p + length c.args.parts.now.generators = omega (arith, c.requires.heads) in
    judged_after tree (generators ++ relators) c.judge_edges.result (met_ok tree c.judge_tree.result c.in_ok-judge_tree.field-0 c.judge_tree.ensures c.in_ok-judge_tree.was)
    (subst (λ (n : ℕ). Judges (generators_asked n p ++ relators) c.judge_edges.result) first
    (subst (λ (n : ℕ). Judges (generators_asked (c.args.place + length c.args.tree_heads.now) p ++ relators_asked n end.rank p) c.judge_edges.result) second c.judge_edges.ensures))
