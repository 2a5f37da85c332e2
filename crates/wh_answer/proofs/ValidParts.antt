-- The lines of what presents a stabiliser are as they are asked to be.
use Rattle.std.proofs.Common.{◌≡◌, ◌≢◌, ◌↔◌, ℕ, zero, suc, ◌+◌, ◌<◌, ◌≤◌, cond, List, [], ◌∷◌, ◌++◌, length, get_or, map, Option, None, Some, slice_get, inl, inr, refl, sym, ap, ◌∙◌, subst, arith}
use Rattle.std.proofs.lemmas.Bool.{cases_lt, lt-ltb, le-ltb}
use Rattle.std.proofs.lemmas.Option.{slice_get-get_or, slice_get_within}
use Rattle.wh_words.specs.Limits.{most_stabiliser_rank}
use Rattle.wh_words.specs.Tuples.{TupleData, IsTuple}
use Rattle.wh_words.specs.Levels.{IsLevel}
use Rattle.wh_level.specs.Trees.{Parents, LevelData, IsClosedLevel}
use Rattle.wh_stab.specs.SpanningTrees.{IsSpanningTree, IsLink}
use Rattle.wh_stab.specs.Presentations.{Start, PresentationData, AreGenerators}
use Rattle.wh_stab.specs.Relators.{AreRelators}
use Rattle.wh_stab.proofs.FirstWalkTrees.{first_walks_span}
use Rattle.wh_stab.proofs.OwnStabilisers.{same_generators, same_relators, trace_root}
use Rattle.wh_fields.specs.FlowFields.{heads_from}
use Rattle.wh_data.specs.declared.answer.Side.{Side}
use Rattle.wh_data.specs.declared.answer.Parts.{Parts}
use Rattle.wh_data.specs.declared.answer.StabVerdict.TheVariants.{Done}
use Rattle.wh_data.specs.RootPlaces.{root_place}
use Rattle.wh_data.specs.AnswerData.{PartsData, side_of, parts_of}
use Rattle.wh_data.specs.AnswerData.StabVerdictData.{done}
use Rattle.wh_data.specs.AnswerParts.{tree_heads_from}
use Rattle.wh_data.specs.Numberings.{side_lines, tree_lines}
use Rattle.wh_cert.specs.Demands.{Placed, IsTreeEdge, is_tree_edge, counts_generators, is_generator, presented_by, tree_vertex, asked_below, tree_edge_asked, tree_asked, generator_asked, generators_asked, relators_asked, level_asked, parts_asked, side_asked, stab_asked}
use Rattle.wh_cert.specs.Checks.{AreMet}
use Rattle.wh_cert.proofs.Judging.{one_met, both_met}
use Rattle.wh_cert.proofs.Spanning.{one_less}
use Rattle.wh_answer.specs.StabiliserAnswers.{told_loop, presentation_by, Presents}
use Rattle.wh_answer.specs.StabiliserAnswers.Presents.{presented}
use Rattle.wh_answer.proofs.Inverses.{trace_leads}
use Rattle.wh_answer.proofs.ValidSides.{each_met, side_met}
use Rattle.wh_answer.proofs.ValidLevels.{level_met}
use Rattle.wh_answer.proofs.RootEntries.{root_entries}
use Rattle.wh_answer.proofs.ValidRelators.{relators_met}

-- ---- the vertices of `tree` lines
vertex_before : (r j : ℕ) → j < r → tree_vertex r j ≡ j
vertex_before r j below = ap (λ b. cond b j (j + 1)) (lt-ltb j r below)

vertex_after : (r j : ℕ) → r ≤ j → tree_vertex r j ≡ j + 1
vertex_after r j above = ap (λ b. cond b j (j + 1)) (le-ltb j r above)

next_vertex : (r j : ℕ) → tree_vertex (suc r) (suc j) ≡ tree_vertex r j + 1
next_vertex r j = elim (cases_lt j r) [
  | inl below ↦ omega (arith, vertex_before r j below, vertex_before (suc r) (suc j) (omega (arith, below)))
  | inr above ↦ omega (arith, vertex_after r j (omega (arith, above)), vertex_after (suc r) (suc j) (omega (arith, above)))
]

-- It is one of the others.
other_vertex : (r n j : ℕ) → j < n → (tree_vertex r j < n + 1) × (tree_vertex r j ≢ r)
other_vertex r n j l = elim (cases_lt j r) [
  | inl below ↦ let e = vertex_before r j below in (omega (arith, e, l), λ f. omega (arith, e, f, below))
  | inr above ↦ let e = vertex_after r j (omega (arith, above)) in (omega (arith, e, l), λ f. omega (arith, e, f, above))
]

-- ---- the numbers that `tree` lines name
all_named : (from : ℕ) (es : Parents) (j : ℕ) → ((v : ℕ) → slice_get es v ≢ Some None) → j < length es → get_or (tree_heads_from from es) j 0 ≡ from + j + 1
all_named from [] j h l = absurd (omega (arith, l))
all_named from (None ∷ es) j h l = absurd (h 0 refl)
all_named from (Some e ∷ es) zero h l = omega arith
all_named from (Some e ∷ es) (suc j) h l = omega (arith, all_named (from + 1) es j (λ v. h (suc v)) (omega (arith, l)))

-- Where one place alone has no parent, they are the numbers of the others.
others_named : (from : ℕ) (es : Parents) (r j : ℕ) → ((v : ℕ) → (slice_get es v ≡ Some None) ↔ (v ≡ r)) → j + 1 < length es → get_or (tree_heads_from from es) j 0 ≡ from + tree_vertex r j + 1
others_named from [] r j h l = absurd (omega (arith, l))
others_named from (None ∷ es) zero j h l = omega (arith, vertex_after 0 j (omega arith), all_named (from + 1) es j (λ v e. absurd (omega (arith, (h (suc v)).0 e))) (omega (arith, l)))
others_named from (None ∷ es) (suc r) j h l = absurd (omega (arith, (h 0).0 refl))
others_named from (Some e ∷ es) zero j h l = absurd (cc ((h 0).1 refl))
others_named from (Some e ∷ es) (suc r) zero h l = omega (arith, vertex_before (suc r) 0 (omega arith))
others_named from (Some e ∷ es) (suc r) (suc j) h l =
    omega (arith, next_vertex r j, others_named (from + 1) es r j (λ v. (λ e. omega (arith, (h (suc v)).0 e), λ e. (h (suc v)).1 (ap suc e))) (omega (arith, l)))

-- ---- the `tree` lines
-- A place of a tree that has a parent.
edge_of : (root : TupleData) (p : PartsData) (head v : ℕ) → IsSpanningTree root p.vertices p.tree → v < length p.tree → slice_get p.tree v ≢ Some None → head ≡ v + 1 → IsTreeEdge p head v
edge_of root p head v spans l other number = by (get_or p.tree v None) (slice_get-get_or p.tree v None l)
  where
    by : (e : Option Start) → slice_get p.tree v ≡ Some e → IsTreeEdge p head v
    by None at = absurd (other at)
    by (Some s) at =
        let link : IsLink p.vertices s.0 s.1 v = spans.links v s.0 s.1 at in
        record { number = number; parent = s.0; via = s.1; entry = at; from = link.tuple; starts = link.starts; valid = link.moves.valid; moves = link.moves.moves; ends = link.ends; back = spans.rooted v l }

module _ (end : TupleData) (p : PartsData) (spans : IsSpanningTree end p.vertices p.tree) (entries : (v : ℕ) → (slice_get p.tree v ≡ Some None) ↔ (v ≡ root_place end p.vertices)) where
  abbrev top : ℕ
  top = root_place end p.vertices

  lines : tree_lines p + 1 ≡ length p.tree
  lines = one_less p.tree top (slice_get_within p.tree top None ((entries top).1 refl)) entries

  line_met : (j : ℕ) → j < tree_lines p → IsTreeEdge p (get_or (tree_heads_from 0 p.tree) j 0) (tree_vertex top j)
  line_met j l =
      let other = other_vertex top (tree_lines p) j l in
      edge_of end p (get_or (tree_heads_from 0 p.tree) j 0) (tree_vertex top j) spans (omega (arith, other.0, lines)) (λ e. other.1 ((entries (tree_vertex top j)).0 e)) (omega (arith, others_named 0 p.tree top j entries (omega (arith, l, lines))))

  tree_lines_met : (place : ℕ) → AreMet (tree_asked place (tree_heads_from 0 p.tree) top p)
  tree_lines_met place =
      each_met (tree_edge_asked place (tree_heads_from 0 p.tree) top p) (tree_lines p) (λ j l.
      one_met (place + j) (is_tree_edge p (get_or (tree_heads_from 0 p.tree) j 0) (tree_vertex top j)) (line_met j l))

module _ (end : TupleData) (l : LevelData) (p : PartsData) (place : ℕ) (closed : IsClosedLevel l) (root : l.root ≡ end) (vertices : p.vertices ≡ l.tuples) (tree : p.tree ≡ l.parents) where
  -- The tree of first walks is one of the vertices.
  own_tree : IsSpanningTree end p.vertices p.tree
  own_tree =
      subst (λ (es : Parents). IsSpanningTree end p.vertices es) (sym tree)
      (subst (λ (ts : List TupleData). IsSpanningTree end ts l.parents) (sym vertices) (subst (λ (t : TupleData). IsSpanningTree t l.tuples l.parents) root (first_walks_span l closed)))

  own_entries : (v : ℕ) → (slice_get p.tree v ≡ Some None) ↔ (v ≡ root_place end p.vertices)
  own_entries v =
      subst (λ (es : Parents). (slice_get es v ≡ Some None) ↔ (v ≡ root_place end p.vertices)) (sym tree)
      (subst (λ (ts : List TupleData). (slice_get l.parents v ≡ Some None) ↔ (v ≡ root_place end ts)) (sym vertices)
      (subst (λ (t : TupleData). (slice_get l.parents v ≡ Some None) ↔ (v ≡ root_place t l.tuples)) root (root_entries l closed v)))

  pub tree_met : AreMet (tree_asked place (tree_heads_from 0 p.tree) (root_place end p.vertices) p)
  tree_met = tree_lines_met end p own_tree own_entries place

  own_level : IsLevel end p.vertices
  own_level = subst (IsLevel end) (sym vertices) (subst (λ (t : TupleData). IsLevel t l.tuples) root closed.level)

-- ---- the lines of generators
pub generators_met : (p : PartsData) (place : ℕ) → AreGenerators (presented_by p p.generators) → AreMet (generators_asked place p)
generators_met p place are =
    both_met ((place, counts_generators p) ∷ []) (asked_below (generator_asked (place + 1) p) (length p.generators)) (one_met place (counts_generators p) (record { edges = p.generators; are = are; count = refl }))
    (each_met (generator_asked (place + 1) p) (length p.generators) (λ k l. one_met (place + 1 + k) (is_generator p k) (record { edges = p.generators; are = are; same = refl })))

-- ---- all lines
pub parts_met : (end : TupleData) (l : LevelData) (p : PartsData) (place : ℕ) → IsClosedLevel l → l.root ≡ end → p.vertices ≡ l.tuples → p.tree ≡ l.parents → AreGenerators (presented_by p p.generators) → ((at : ℕ) → AreMet (relators_asked at end.rank p)) →
    AreMet (parts_asked place (tree_heads_from 0 p.tree) end p)
parts_met end l p place closed root vertices tree generators relators =
    let heads : List ℕ = tree_heads_from 0 p.tree in
    let at : ℕ = place + 1 + length p.vertices in
    let after : ℕ = place + 3 + length p.vertices + tree_lines p + length p.generators in
    let edges : List Placed = tree_asked at heads (root_place end p.vertices) p in
    let starts : List Placed = generators_asked (at + tree_lines p) p in
    let ways : List Placed = relators_asked after end.rank p in
    both_met (level_asked place end None p.vertices) (edges ++ (starts ++ ways)) (level_met end None p.vertices (own_level end l p place closed root vertices tree) tt place)
    (both_met edges (starts ++ ways) (tree_met end l p at closed root vertices tree)
    (both_met starts ways (generators_met p (at + tree_lines p) generators) (relators after)))

pub stab_met : (limit : ℕ) (t : TupleData) (side : Side) (parts : Parts) → IsTuple t → t.rank ≤ most_stabiliser_rank → Presents limit t (Done side parts) →
    AreMet (stab_asked 3 (heads_from 0 side.flows) (tree_heads_from 0 parts.tree) t (done (side_of side) (parts_of parts)))
stab_met limit t side parts is low (presented {l = l} has few less own are) =
    let p : PartsData = parts_of parts in
    let q : PresentationData = presentation_by side.trace parts in
    let root : l.root ≡ side.end.plain = sym (trace_leads t l.root side.trace has.leads) ∙ trace_leads t side.end.plain side.trace own.trace in
    let end : IsTuple side.end.plain × (side.end.plain.rank ≡ t.rank) = trace_root t side.end.plain side.trace is low own.trace in
    let generators : AreGenerators (presented_by p parts.generators) = same_generators q (presented_by p parts.generators) refl refl refl are.presented.generators in
    let relators : AreRelators (presented_by p parts.generators) (map told_loop parts.relators) = same_relators q (presented_by p parts.generators) refl refl refl (map told_loop parts.relators) are.relators in
    let level : IsLevel side.end.plain p.vertices = subst (λ (u : TupleData). IsLevel u p.vertices) root are.presented.level in
    both_met (side_asked 3 (heads_from 0 side.flows) t (side_of side)) (parts_asked (3 + side_lines t.rank) (tree_heads_from 0 parts.tree) side.end.plain p) (side_met 3 t side is (omega (arith, low)) own)
    (parts_met side.end.plain l p (3 + side_lines t.rank) has.closed root are.vertices are.tree generators (λ at. relators_met side.end.plain p at end.0 (omega (arith, end.1, low)) level relators))
