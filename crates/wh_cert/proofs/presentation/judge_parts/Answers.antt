use Rattle.std.proofs.Common.{◌≡◌, ℕ, ◌+◌, ◌≤◌, ◌++◌, List, None, length, rules, sym, ap, subst, arith}
use Rattle.std.specs.List.{All}
use Rattle.std.proofs.lemmas.List.{length-map}
use Rattle.wh_words.specs.Tuples.{TupleData, Tuple}
use Rattle.wh_words.specs.Limits.{most_level_rank}
use Rattle.wh_data.specs.AnswerData.{PartsData, plains, parts_of}
use Rattle.wh_data.specs.Numberings.{tree_lines}
use Rattle.wh_data.specs.RootPlaces.{root_place}
use Rattle.wh_cert.specs.Demands.{Placed, level_asked, tree_asked, generators_asked, relators_asked}
use Rattle.wh_cert.specs.Judged.{Judges}
use Rattle.wh_cert.proofs.Judging.{met_ok, stopped_first, judged_after}
use Rattle.wh_cert.proofs.Rising.{low_ranks}
use Rattle.wh_cert.proofs.presentation.judge_parts.Goals as goal

pub judge_level-requires-clause-ranks : goal.judge_level-requires-clause-ranks
judge_level-requires-clause-ranks c =
    subst (λ (ts : List Tuple). All (λ t. t.plain.rank ≤ most_level_rank) ts) (sym c.items-vertices.ensures)
    (low_ranks c.args.end.now.plain.rank c.args.parts.now.vertices c.requires.parts.vertices (omega (arith, c.requires.parts.low)))

pub returns-in_err-judge_level : goal.returns-in_err-judge_level
returns-in_err-judge_level c =
    let p : PartsData = parts_of c.args.parts.now in
    let end : TupleData = c.args.end.now.plain in
    let level : List Placed = level_asked c.args.place end None p.vertices in
    let tree : List Placed = tree_asked (c.args.place + 1 + length p.vertices) c.args.tree_heads.now (root_place end p.vertices) p in
    let generators : List Placed = generators_asked (c.args.place + 1 + length p.vertices + tree_lines p) p in
    let relators : List Placed = relators_asked (c.args.place + 3 + length p.vertices + tree_lines p + length p.generators) end.rank p in
    stopped_first level (tree ++ (generators ++ relators)) c.judge_level.result c.from_residual.result c.in_err-judge_level.field-0.0
    (subst (λ (ts : List Tuple). Judges (level_asked c.args.place end None (plains ts)) c.judge_level.result) c.items-vertices.ensures c.judge_level.ensures) c.in_err-judge_level.was (search rules)

pub judge_walks-requires-clause-level : goal.judge_walks-requires-clause-level
judge_walks-requires-clause-level c =
    let end : TupleData = c.args.end.now.plain in (
      c.args.place,
      met_ok (level_asked c.args.place end None (plains c.args.parts.now.vertices)) c.judge_level.result c.in_ok-judge_level.field-0
          (subst (λ (ts : List Tuple). Judges (level_asked c.args.place end None (plains ts)) c.judge_level.result) c.items-vertices.ensures c.judge_level.ensures) c.in_ok-judge_level.was,
    )

pub returns : goal.returns
returns c =
    let p : PartsData = parts_of c.args.parts.now in
    let end : TupleData = c.args.end.now.plain in
    let root : ℕ = root_place end p.vertices in
    let level : List Placed = level_asked c.args.place end None p.vertices in
    let tree : List Placed = tree_asked (c.args.place + 1 + length p.vertices) c.args.tree_heads.now root p in
    let generators : List Placed = generators_asked (c.args.place + 1 + length p.vertices + tree_lines p) p in
    let relators : List Placed = relators_asked (c.args.place + 3 + length p.vertices + tree_lines p + length p.generators) end.rank p in
    let own : ℕ = c.args.place + 1 + length c.items-vertices.result.now in
    let same : own ≡ c.args.place + 1 + length p.vertices = omega (arith, ap length c.items-vertices.ensures, length-map c.args.parts.now.vertices (λ (t : Tuple). t.plain)) in
    let last : c.args.place + 1 + length p.vertices + 2 + tree_lines p + length p.generators ≡ c.args.place + 3 + length p.vertices + tree_lines p + length p.generators = omega arith in
    judged_after level (tree ++ (generators ++ relators)) c.judge_walks.result
    (met_ok level c.judge_level.result c.in_ok-judge_level.field-0 (subst (λ (ts : List Tuple). Judges (level_asked c.args.place end None (plains ts)) c.judge_level.result) c.items-vertices.ensures c.judge_level.ensures) c.in_ok-judge_level.was)
    (subst (λ (n : ℕ). Judges (tree ++ (generators ++ relators_asked n end.rank p)) c.judge_walks.result) last
    (subst (λ (n : ℕ). Judges (tree_asked n c.args.tree_heads.now root p ++ (generators_asked (n + tree_lines p) p ++ relators_asked (n + 2 + tree_lines p + length p.generators) end.rank p)) c.judge_walks.result) same c.judge_walks.ensures))
