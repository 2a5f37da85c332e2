-- A tuple has one stabiliser: what is found of it is told by one list of rows, and by one status.
use Rattle.std.proofs.Common.{◌≡◌, ◌⊎◌, ℕ, ◌<◌, ◌≤◌, List, [], ◌∷◌, ◌++◌, length, map, Option, refl, sym, ap, ap₂, ◌∙◌, subst, arith, inl, inr}
use Rattle.wh_words.specs.Limits.{most_level_edges, most_relators}
use Rattle.wh_words.specs.Tuples.{TupleData, IsTuple, tuple_length}
use Rattle.wh_words.specs.Moves.{Move}
use Rattle.wh_words.specs.CapacityTraces.{IsCapacityTrace}
use Rattle.wh_words.specs.Levels.{IsLevel, HasMoreThan}
use Rattle.wh_level.specs.Trees.{LevelData, IsClosedLevel}
use Rattle.wh_level.specs.LevelEdges.{HasMoreEdges}
use Rattle.wh_level.proofs.LawProofs.{limit_exact}
use Rattle.wh_level.proofs.OneLevel.{closed_level_unique}
use Rattle.wh_stab.specs.Presentations.{Start, PresentationData}
use Rattle.wh_stab.specs.Relators.{RelatorData, AreRelators, relator_count}
use Rattle.wh_stab.specs.Stabilisers.{HasFewEdges}
use Rattle.wh_stab.proofs.Words.{generators_unique}
use Rattle.wh_stab.proofs.RelatorWords.{relators_unique}
use Rattle.wh_lines.specs.Rows.{Row}
use Rattle.wh_data.specs.declared.status.Status.{Status}
use Rattle.wh_data.specs.declared.status.Status.TheVariants as statuses
use Rattle.wh_data.specs.declared.answer.Side.{Side}
use Rattle.wh_data.specs.declared.answer.Bound.TheVariants.{Length, Level, Edges, Relators}
use Rattle.wh_data.specs.declared.answer.Loop.{Loop}
use Rattle.wh_data.specs.declared.answer.Parts.{Parts}
use Rattle.wh_data.specs.declared.answer.StabVerdict.{StabVerdict}
use Rattle.wh_data.specs.declared.answer.StabVerdict.TheVariants.{Done, Undecided}
use Rattle.wh_data.specs.AnswerData.{PartsData, parts_of, stab_verdict_of}
use Rattle.wh_data.specs.AnswerTexts.{level_rows, stab_rows}
use Rattle.wh_data.specs.PresentationTexts.{presentation_rows}
use Rattle.wh_data.specs.Statuses.{stab_status}
use Rattle.wh_answer.specs.Sides.{IsSideOf}
use Rattle.wh_answer.specs.StabiliserAnswers.{told_loop, presentation_by, ArePartsOf, Presents}
use Rattle.wh_answer.specs.StabiliserAnswers.Presents.{too_long, too_many, many_edges, many_relators, presented}
use Rattle.wh_answer.proofs.Branches.{branch}
use Rattle.wh_answer.proofs.OneSide.{trace_one, side_one}

-- ---- parts
loop_one : (r s : Loop) → told_loop r ≡ told_loop s → r ≡ s
loop_one r s e = ap (λ (x : RelatorData). record { at = x.at; moves = x.moves; word = x.word }) e

loops_one : (rs ss : List Loop) → map told_loop rs ≡ map told_loop ss → rs ≡ ss
loops_one [] [] e = refl
loops_one [] (s ∷ ss) e = absurd (cc)
loops_one (r ∷ rs) [] e = absurd (cc)
loops_one (r ∷ rs) (s ∷ ss) e =
    let first : told_loop r ≡ told_loop s = (cc) in
    let rest : map told_loop rs ≡ map told_loop ss = (cc) in
    ap₂ (λ (x : Loop) (xs : List Loop). x ∷ xs) (loop_one r s first) (loops_one rs ss rest)

-- Parts of one level by one trace tell the same.
parts_one : (t : TupleData) (l : LevelData) (trace : List Move) (p q : Parts) → ArePartsOf t trace l p → ArePartsOf t trace l q → parts_of p ≡ parts_of q
parts_one t l trace p q are other =
    let one : PresentationData = presentation_by trace p in
    let two : PresentationData = presentation_by trace q in
    let vertices : one.vertices ≡ two.vertices = are.vertices ∙ sym other.vertices in
    let tree : p.tree ≡ q.tree = are.tree ∙ sym other.tree in
    let generators : p.generators ≡ q.generators = generators_unique one two are.presented.generators other.presented.generators vertices tree in
    let same : one ≡ two =
    ap (λ (ts : List TupleData). record { trace = trace; vertices = ts; tree = p.tree; generators = p.generators }) vertices
    ∙ ap (λ (ps : List (Option (ℕ × Move))). record { trace = trace; vertices = two.vertices; tree = ps; generators = p.generators }) tree
    ∙ ap (λ (gs : List Start). record { trace = trace; vertices = two.vertices; tree = q.tree; generators = gs }) generators in
    let told : map told_loop p.relators ≡ map told_loop q.relators =
    relators_unique t l.root one (map told_loop p.relators) (map told_loop q.relators) are.presented are.relators
    (subst (λ (x : PresentationData). AreRelators x (map told_loop q.relators)) (sym same) other.relators) in
    let relators : p.relators ≡ q.relators = loops_one p.relators q.relators told in
    ap (λ (ts : List TupleData). record { vertices = ts; tree = p.tree; generators = p.generators; relators = p.relators }) vertices
    ∙ ap (λ (ps : List (Option (ℕ × Move))). record { vertices = two.vertices; tree = ps; generators = p.generators; relators = p.relators }) tree
    ∙ ap (λ (gs : List Start). record { vertices = two.vertices; tree = q.tree; generators = gs; relators = p.relators }) generators
    ∙ ap (λ (rs : List Loop). record { vertices = two.vertices; tree = q.tree; generators = q.generators; relators = rs }) relators

-- ---- what is told
-- Rows and a status.
abbrev Told : Type 0
Told = List Row × Status

abbrev pub stab_told : StabVerdict → List Row × Status
stab_told v = (stab_rows (stab_verdict_of v), stab_status v)

module _ (limit : ℕ) (t u : TupleData) (is : IsTuple t) (low : t.rank ≤ 26) where
  -- What is told where the level meets no bound.
  abbrev Whole : LevelData → Told → Type 0
  Whole l x = (a : Side) × (p : Parts) × IsSideOf t a × ArePartsOf t a.trace l p × (x ≡ stab_told (Done a p))

  -- What is told where the level has few edges, by how many relators it has.
  abbrev InFewEdges : LevelData → Told → Type 0
  InFewEdges l x = ((most_relators < relator_count l.tuples) × (x ≡ stab_told (Undecided Relators))) ⊎ ((relator_count l.tuples ≤ most_relators) × Whole l x)

  -- What is told of a level, by how many edges it has.
  abbrev OnLevel : LevelData → Told → Type 0
  OnLevel l x = (HasMoreEdges l most_level_edges × (x ≡ stab_told (Undecided Edges))) ⊎ (HasFewEdges l most_level_edges × InFewEdges l x)

  abbrev ByLevel : Told → Type 0
  ByLevel x = (l : LevelData) × (IsClosedLevel l × (l.root ≡ u)) × OnLevel l x

  -- What is told where the end u of the trace has 256 letters at most, by whether the level is too large.
  abbrev InSmallTuples : Told → Type 0
  InSmallTuples x = (HasMoreThan u limit × (x ≡ stab_told (Undecided (Level limit)))) ⊎ (((ts : List TupleData) × IsLevel u ts × (length ts ≤ limit)) × ByLevel x)

  -- What is told, by whether the end is too long.
  abbrev IsTold : Told → Type 0
  IsTold x = ((256 < tuple_length u) × (x ≡ stab_told (Undecided (Length (tuple_length u))))) ⊎ ((tuple_length u ≤ 256) × InSmallTuples x)

  whole_one : (l : LevelData) (x y : Told) → Whole l x → Whole l y → x ≡ y
  whole_one l x y (a, p, i, h, e) (b, q, j, k, f) =
      let trace : a.trace ≡ b.trace = (trace_one t a.end.plain b.end.plain a.trace b.trace is low i.trace j.trace).0 in
      let parts : parts_of p ≡ parts_of q = parts_one t l b.trace p q (subst (λ (ms : List Move). ArePartsOf t ms l p) trace h) k in
      e ∙ ap₂ (λ (rs : List Row) (d : PartsData). ((rs ++ level_rows d.vertices) ++ presentation_rows d, statuses.Done)) (side_one t a b is low i j) parts ∙ sym f

  on_level_one : (l : LevelData) (x y : Told) → OnLevel l x → OnLevel l y → x ≡ y
  on_level_one l x y =
      branch (λ x. x ≡ stab_told (Undecided Edges)) (InFewEdges l) (λ more few. let over = more few.0 few.1 in omega (arith, over, few.2)) (λ x y _ e f. e ∙ sym f)
      (λ x y _. branch (λ r. r ≡ stab_told (Undecided Relators)) (Whole l) (λ more few. omega (arith, more, few)) (λ r q _ e f. e ∙ sym f) (λ r q _. whole_one l r q) x y) x y

  by_level_one : (x y : Told) → ByLevel x → ByLevel y → x ≡ y
  by_level_one x y (l, (c, r), o) (m, (d, s), n) = let same : l ≡ m = closed_level_unique l m c d (r ∙ sym s) in on_level_one l x y o (subst (λ (k : LevelData). OnLevel k y) (sym same) n)

  told_once : (x y : Told) → IsTold x → IsTold y → x ≡ y
  told_once =
      branch (λ x. x ≡ stab_told (Undecided (Length (tuple_length u)))) InSmallTuples (λ more few. omega (arith, more, few)) (λ x y _ e f. e ∙ sym f)
      (λ x y _. branch (λ r. r ≡ stab_told (Undecided (Level limit))) ByLevel (λ more few. limit_exact u few.0 limit few.1 more few.2) (λ r q _ e f. e ∙ sym f) (λ r q _. by_level_one r q) x y)

  module _ (ms : List Move) (leads : IsCapacityTrace t ms u) where
    end_one : (ks : List Move) (x : TupleData) → IsCapacityTrace t ks x → x ≡ u
    end_one ks x other = (trace_one t x u ks ms is low other leads).1

    known : (l : LevelData) (x : Told) → IsClosedLevel l → l.root ≡ u → tuple_length l.root ≤ 256 → length l.tuples ≤ limit → OnLevel l x → IsTold x
    known l x closed same short few on =
        inr (omega (arith, short, ap tuple_length same), inr ((l.tuples, subst (λ (k : TupleData). IsLevel k l.tuples) same closed.level, few), (l, (closed, same), on)))

    is_told : (v : StabVerdict) → Presents limit t v → IsTold (stab_told v)
    is_told v (too_long {trace = ks} {u = x} other long) =
        let same : tuple_length x ≡ tuple_length u = ap tuple_length (end_one ks x other) in
        inl (omega (arith, long, same), ap (λ (n : ℕ). stab_told (Undecided (Length n))) same)
    is_told v (too_many {trace = ks} {u = x} other short more) =
        let same : x ≡ u = end_one ks x other in
        inr (omega (arith, short, ap tuple_length same), inl (subst (λ (k : TupleData). HasMoreThan k limit) same more, refl))
    is_told v (many_edges {trace = ks} {l = l} has more) = known l (stab_told v) has.closed (end_one ks l.root has.leads) has.low has.few (inl (more, refl))
    is_told v (many_relators {trace = ks} {l = l} has few more) = known l (stab_told v) has.closed (end_one ks l.root has.leads) has.low has.few (inr (few, inl (more, refl)))
    is_told v (presented {side = a} {parts = p} {l = l} has few less own are) =
        known l (stab_told v) has.closed (end_one a.trace l.root has.leads) has.low has.few (inr (few, inr (less, (a, p, own, are, refl))))

-- The trace of what is found.
trace_of : (limit : ℕ) (t : TupleData) (v : StabVerdict) → Presents limit t v → (ms : List Move) × (u : TupleData) × IsCapacityTrace t ms u
trace_of limit t v (too_long {trace = ks} {u = x} leads long) = (ks, x, leads)
trace_of limit t v (too_many {trace = ks} {u = x} leads short more) = (ks, x, leads)
trace_of limit t v (many_edges {trace = ks} {l = l} has more) = (ks, l.root, has.leads)
trace_of limit t v (many_relators {trace = ks} {l = l} has few more) = (ks, l.root, has.leads)
trace_of limit t v (presented {side = a} {l = l} has few less own are) = (a.trace, l.root, has.leads)

pub stab_one : (limit : ℕ) (t : TupleData) (a b : StabVerdict) → IsTuple t → t.rank ≤ 26 → Presents limit t a → Presents limit t b → stab_told a ≡ stab_told b
stab_one limit t a b is low i j =
    let (ms, u, leads) = trace_of limit t a i in
    told_once limit t u is low (stab_told a) (stab_told b) (is_told limit t u is low ms leads a i) (is_told limit t u is low ms leads b j)
