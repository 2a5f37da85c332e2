-- What presents a stabiliser is read back from its rows: for the law on printed answers.
use Rattle.std.proofs.Common.{◌≡◌, ◌↔◌, ◌≢◌, ℕ, zero, suc, ◌+◌, ◌-◌, ◌^◌, ◌<◌, ◌≤◌, cond, List, [], ◌∷◌, ◌++◌, length, map, sym, ap, ◌∙◌, refl, subst, arith, append_assoc, None, Some, Result, Ok, Err}
use Rattle.std.specs.Prelude.{◌&&◌, codes, decimal, IfSome, slice_get}
use Rattle.std.specs.declared.option.Option.{Option}
use Rattle.std.specs.List.{All}
use Rattle.std.proofs.lemmas.List.{length-map}
use Rattle.std.proofs.lemmas.List.Elements.{All-nil, All-cons, All-head, All-tail, All-append, All-map, All-weaker}
use Rattle.wh_words.specs.Limits.{most_level_edges, most_relators}
use Rattle.wh_words.specs.Tuples.{TupleData}
use Rattle.wh_words.specs.Moves.{Move}
use Rattle.wh_lines.specs.declared.read_error.ReadError.{ReadError}
use Rattle.wh_lines.specs.declared.read_error.ReadError.TheVariants as errors
use Rattle.wh_lines.specs.Lines.{are}
use Rattle.wh_lines.specs.Readings.{◌>>=◌, or_bad_line}
use Rattle.wh_lines.specs.LineReadings.{Reading, times}
use Rattle.wh_lines.specs.Rows.{Row}
use Rattle.wh_fields.specs.MoveFields.{kind_text, IsMoveOf, moves_row}
use Rattle.wh_fields.specs.StabiliserFields.{TreeEdgeData, tree_edge_in, generator_in, RelatorLineData, relator_in, vertex_text, tree_row, generator_row, relator_row}
use Rattle.wh_fields.specs.Laws.{IsCounting, IsMoveField, AreMoveFields}
use Rattle.wh_data.specs.declared.answer.Loop.{Loop}
use Rattle.wh_data.specs.RootPlaces.{root_place}
use Rattle.wh_data.specs.AnswerData.{PartsData}
use Rattle.wh_data.specs.AnswerParts.{IsStartOf, IsLoopOf, ArePartsOf, tree_heads_from}
use Rattle.wh_data.specs.PresentationTexts.{tree_rows, generator_rows, relator_rows, presentation_rows}
use Rattle.wh_text.specs.Certificates.{moves_after, is_undecided_in, unless_undecided, stab_trace_after, tree_edge_after, generator_after, relator_after, counted_after, PartsRead, tree_with, loop_of, parts_with, parts_after}
use Rattle.wh_lines.proofs.PrintedRows.{IsShown, IsShownRow}
use Rattle.wh_lines.proofs.RowReadings.{ReadsRows, reads_none, row_then, reads_then, reads_as, times_none, times_more}
use Rattle.wh_fields.proofs.ShownFields.{kind_shown, decimal_shown, written_shown}
use Rattle.wh_fields.proofs.ReadMoves.{kind_back}
use Rattle.wh_fields.proofs.MoveLaws.{reads_moves}
use Rattle.wh_fields.proofs.StabiliserLaws.{reads_tree_edges, reads_generators, reads_relators}
use Rattle.wh_text.proofs.Trees.{parent, root_small}
use Rattle.wh_text.proofs.ReadSides.{kind_of, moves_shown, moves_read}
use Rattle.wh_text.proofs.ReadVerdicts.{number_then}

-- ---- the first line
pub trace_read : (n : ℕ) (ms : List Move) → n ≤ 26 → All (IsMoveOf n) ms → ReadsRows (stab_trace_after n) ms (moves_row (codes "trace") ms ∷ [])
unfolding stab_trace_after
trace_read n ms h a =
    let moves = moves_read (codes "trace") n ms (written_shown 116 (codes "race") refl) h a in
    record {
      shown = moves.shown;
      told = λ p q passes.
          ap (λ r. unless_undecided r (moves_after (codes "trace") n p)) passes.2
          ∙ ap (λ w. cond (are w (codes "verdict") && is_undecided_in passes.0.fields) (Err (errors.NoCertificate passes.0.number)) (moves_after (codes "trace") n p)) passes.3.keyword
          ∙ moves.told p q passes;
    }

-- ---- fields
move_field : (n : ℕ) (m : Move) → n ≤ 26 → IsMoveOf n m → IsMoveField n (kind_text m.kind) m.kind
move_field n m h i = (reads_moves n (kind_text m.kind) m.kind h).0 (kind_back n m.kind h (kind_of n m i))

move_shown : (n : ℕ) (m : Move) → n ≤ 26 → IsMoveOf n m → IsShown (kind_text m.kind)
move_shown n m h i = kind_shown n m.kind h (kind_of n m i)

way_fields : (n : ℕ) (ms : List Move) → n ≤ 26 → All (IsMoveOf n) ms → AreMoveFields n (map (λ m. kind_text m.kind) ms) ms
way_fields n [] h a = tt
way_fields n (m ∷ ms) h a =
    let i = All-head (IsMoveOf n) m ms a in
    (i.1, move_field n m h i, way_fields n ms h (All-tail (IsMoveOf n) m ms a))

counting_shown : (k : ℕ) → IsCounting k → IsShown (decimal k)
counting_shown k i = decimal_shown k (omega (arith, i.1))

-- ---- trees
-- what the lines of a tree tell, whose first vertex is v
abbrev pub edges_from : ℕ → List (Option (ℕ × Move)) → List TreeEdgeData
edges_from v [] = []
edges_from v (None ∷ es) = edges_from (v + 1) es
edges_from v (Some e ∷ es) = record { head = v + 1; parent = e.0; move = e.1 } ∷ edges_from (v + 1) es

heads_back : (v : ℕ) (es : List (Option (ℕ × Move))) → map (λ e. e.head) (edges_from v es) ≡ tree_heads_from v es
heads_back v [] = refl
heads_back v (None ∷ es) = heads_back (v + 1) es
heads_back v (Some e ∷ es) = ap (λ hs. (v + 1) ∷ hs) (heads_back (v + 1) es)

-- entries that all have a parent
all_back : (v : ℕ) (es : List (Option (ℕ × Move))) → ((j : ℕ) → slice_get es j ≢ Some None) → (map parent (edges_from v es) ≡ es) × (length (edges_from v es) ≡ length es)
all_back v [] h = (refl, refl)
all_back v (None ∷ es) h = absurd (h zero refl)
all_back v (Some e ∷ es) h =
    let later = all_back (v + 1) es (λ j. h (suc j)) in
    (ap (λ xs. Some e ∷ xs) later.0, ap suc later.1)

-- the tree of the lines, where the root alone has no parent
tree_back : (v root : ℕ) (es : List (Option (ℕ × Move))) → root < length es → ((j : ℕ) → (slice_get es j ≡ Some None) ↔ (j ≡ root)) → (tree_with root (edges_from v es) ≡ es) × (length (edges_from v es) + 1 ≡ length es)
tree_back v root [] l h = absurd (omega (arith, l))
tree_back v zero (None ∷ es) l h =
    let later = all_back (v + 1) es (λ j e. omega (arith, (h (suc j)).0 e)) in
    (ap (λ xs. None ∷ xs) later.0, omega (arith, later.1))
tree_back v (suc r) (None ∷ es) l h = absurd (omega (arith, (h zero).0 refl))
tree_back v zero (Some e ∷ es) l h = let never = (h zero).1 refl in absurd (cc)
tree_back v (suc r) (Some e ∷ es) l h =
    let later = tree_back (v + 1) r es (omega (arith, l)) (λ j. (λ e. omega (arith, (h (suc j)).0 e), λ e. (h (suc j)).1 (ap suc e))) in
    (ap (λ xs. Some e ∷ xs) later.0, omega (arith, later.1))

edge_read : (n v : ℕ) (e : ℕ × Move) → n ≤ 26 → IsCounting (v + 1) → IsStartOf n e → ReadsRows (tree_edge_after n) (record { head = v + 1; parent = e.0; move = e.1 }) (tree_row v e.0 e.1 ∷ [])
unfolding tree_edge_after
edge_read n v e h number i =
    let told : TreeEdgeData = record { head = v + 1; parent = e.0; move = e.1 } in
    row_then (tree_row v e.0 e.1) (λ k. or_bad_line k.0.number (tree_edge_in n k.0.fields) >>= λ e. Ok (e, k.1)) told []
    (record {
      keyword = written_shown 116 (codes "ree") refl;
      fields = All-cons IsShown (vertex_text v) (vertex_text e.0 ∷ kind_text e.1.kind ∷ []) (counting_shown (v + 1) number)
          (All-cons IsShown (vertex_text e.0) (kind_text e.1.kind ∷ []) (counting_shown (e.0 + 1) i.0)
          (All-cons IsShown (kind_text e.1.kind) [] (move_shown n e.1 h i.1) (All-nil IsShown)));
    })
    (λ k t. reads_none (λ p. or_bad_line k.number (tree_edge_in n k.fields) >>= λ e. Ok (e, p)) told (λ p. ap (λ o. or_bad_line k.number o >>= λ e. Ok (e, p)) ((reads_tree_edges n k.fields told h).1 (record {
      number = number;
      parent = i.0;
      rank = i.1.1;
      field = kind_text e.1.kind;
      move = move_field n e.1 h i.1;
      spelled = t.same;
    }))))

edges_read : (n v : ℕ) (es : List (Option (ℕ × Move))) → n ≤ 26 → v + length es < 2 ^ 32 → All (λ e. IfSome e (IsStartOf n)) es →
    ReadsRows (times (tree_edge_after n) (length (edges_from v es))) (edges_from v es) (tree_rows v es)
edges_read n v [] h l a = times_none (tree_edge_after n)
edges_read n v (None ∷ es) h l a = edges_read n (v + 1) es h (omega (arith, l)) (All-tail (λ e. IfSome e (IsStartOf n)) None es a)
edges_read n v (Some e ∷ es) h l a =
    times_more (tree_edge_after n) (length (edges_from (v + 1) es)) (record { head = v + 1; parent = e.0; move = e.1 }) (edges_from (v + 1) es) (tree_row v e.0 e.1 ∷ []) (tree_rows (v + 1) es)
    (edge_read n v e h (omega arith, omega (arith, l)) (All-head (λ e. IfSome e (IsStartOf n)) (Some e) es a))
    (edges_read n (v + 1) es h (omega (arith, l)) (All-tail (λ e. IfSome e (IsStartOf n)) (Some e) es a))

-- ---- counted lines
counted_read : {A : Type 0} (keyword : List ℕ) (most : ℕ) (read : Reading → Result (A × Reading) ReadError) (xs : List A) (rows : List Row) → IsShown keyword → length xs < 2 ^ 64 → length xs ≤ most →
    ReadsRows (times read (length xs)) xs rows → ReadsRows (counted_after keyword most read) xs (record { keyword = keyword; fields = decimal (length xs) ∷ [] } ∷ rows)
counted_read keyword most read xs rows k h l items = number_then keyword 0 most (length xs) (λ q. times read q.0 q.1) xs rows k h (omega arith) l items

-- ---- generators
generator_read : (n : ℕ) (g : ℕ × Move) → n ≤ 26 → IsStartOf n g → ReadsRows (generator_after n) g (generator_row g.0 g.1 ∷ [])
unfolding generator_after
generator_read n g h i =
    row_then (generator_row g.0 g.1) (λ k. or_bad_line k.0.number (generator_in n k.0.fields) >>= λ g. Ok (g, k.1)) g []
    (record {
      keyword = written_shown 103 (codes "enerator") refl;
      fields = All-cons IsShown (vertex_text g.0) (kind_text g.1.kind ∷ []) (counting_shown (g.0 + 1) i.0)
          (All-cons IsShown (kind_text g.1.kind) [] (move_shown n g.1 h i.1) (All-nil IsShown));
    })
    (λ k t. reads_none (λ p. or_bad_line k.number (generator_in n k.fields) >>= λ g. Ok (g, p)) g (λ p. ap (λ o. or_bad_line k.number o >>= λ g. Ok (g, p)) ((reads_generators n k.fields g h).1 (record {
      vertex = i.0;
      rank = i.1.1;
      field = kind_text g.1.kind;
      move = move_field n g.1 h i.1;
      spelled = t.same;
    }))))

generators_read : (n : ℕ) (gs : List (ℕ × Move)) → n ≤ 26 → All (IsStartOf n) gs → ReadsRows (times (generator_after n) (length gs)) gs (map (λ g. generator_row g.0 g.1) gs)
generators_read n [] h a = times_none (generator_after n)
generators_read n (g ∷ gs) h a =
    times_more (generator_after n) (length gs) g gs (generator_row g.0 g.1 ∷ []) (map (λ g. generator_row g.0 g.1) gs)
    (generator_read n g h (All-head (IsStartOf n) g gs a)) (generators_read n gs h (All-tail (IsStartOf n) g gs a))

-- ---- relators
-- what the line of a relator tells
abbrev pub line_of : Loop → RelatorLineData
line_of r = record { at = r.at; moves = r.moves; word = r.word }

loops_back : (rs : List Loop) → map loop_of (map line_of rs) ≡ rs
loops_back [] = refl
loops_back (r ∷ rs) = ap (λ xs. r ∷ xs) (loops_back rs)

relator_shown : (n : ℕ) (r : Loop) → n ≤ 26 → IsLoopOf n r → IsShownRow (relator_row r.at r.moves r.word)
relator_shown n r h i =
    let numbers = All-map IsShown decimal r.word (All-weaker IsCounting (λ k. IsShown (decimal k)) counting_shown r.word i.numbers) in
    record {
      keyword = written_shown 114 (codes "elator") refl;
      fields = All-cons IsShown (vertex_text r.at) (map (λ m. kind_text m.kind) r.moves ++ codes "=" ∷ map decimal r.word) (counting_shown (r.at + 1) i.vertex)
          (All-append IsShown (map (λ m. kind_text m.kind) r.moves) (codes "=" ∷ map decimal r.word) (moves_shown n r.moves h i.moves)
          (All-cons IsShown (codes "=") (map decimal r.word) (written_shown 61 [] refl) numbers));
    }

relator_read : (n : ℕ) (r : Loop) → n ≤ 26 → IsLoopOf n r → ReadsRows (relator_after n) (line_of r) (relator_row r.at r.moves r.word ∷ [])
unfolding relator_after
relator_read n r h i =
    row_then (relator_row r.at r.moves r.word) (λ k. or_bad_line k.0.number (relator_in n k.0.fields) >>= λ r. Ok (r, k.1)) (line_of r) [] (relator_shown n r h i)
    (λ k t. reads_none (λ p. or_bad_line k.number (relator_in n k.fields) >>= λ r. Ok (r, p)) (line_of r) (λ p. ap (λ o. or_bad_line k.number o >>= λ r. Ok (r, p)) ((reads_relators n k.fields (line_of r) h).1 (record {
      vertex = i.vertex;
      fields = map (λ m. kind_text m.kind) r.moves;
      moves = way_fields n r.moves h i.moves;
      some = i.some;
      numbers = i.numbers;
      spelled = t.same;
    }))))

relators_read : (n : ℕ) (rs : List Loop) → n ≤ 26 → All (IsLoopOf n) rs → ReadsRows (times (relator_after n) (length (map line_of rs))) (map line_of rs) (map (λ r. relator_row r.at r.moves r.word) rs)
relators_read n [] h a = times_none (relator_after n)
relators_read n (r ∷ rs) h a =
    times_more (relator_after n) (length (map line_of rs)) (line_of r) (map line_of rs) (relator_row r.at r.moves r.word ∷ []) (map (λ r. relator_row r.at r.moves r.word) rs)
    (relator_read n r h (All-head (IsLoopOf n) r rs a)) (relators_read n rs h (All-tail (IsLoopOf n) r rs a))

-- ---- all that presents a stabiliser
-- what its lines tell
abbrev pub parts_told : PartsData → PartsRead
parts_told p = record { parts = p; heads = tree_heads_from 0 p.tree }

pub parts_read : (n count : ℕ) (end : TupleData) (p : PartsData) → n ≤ 26 → ArePartsOf n count end p → ReadsRows (parts_after n end p.vertices) (parts_told p) (presentation_rows p)
unfolding parts_after
parts_read n count end p h i =
    let vs = p.vertices in
    let root = root_place end vs in
    let edges = edges_from 0 p.tree in
    let lines = map line_of p.relators in
    let generators = generator_rows p.generators in
    let relators = relator_rows p.relators in
    let back = tree_back 0 root p.tree (omega (arith, root_small end vs, i.some, i.entries)) i.root in
    let told : parts_with end vs edges p.generators lines ≡ parts_told p =
    ap (λ t. record { parts = record { vertices = vs; tree = t; generators = p.generators; relators = map loop_of lines }; heads = map (λ e. e.head) edges }) back.0
    ∙ ap (λ rs. record { parts = record { vertices = vs; tree = p.tree; generators = p.generators; relators = rs }; heads = map (λ e. e.head) edges }) (loops_back p.relators)
    ∙ ap (λ hs. record { parts = p; heads = hs }) (heads_back 0 p.tree) in
    let many : length lines ≡ length p.relators = length-map p.relators line_of in
    let relators_told : ReadsRows (counted_after (codes "relators") most_relators (relator_after n)) lines relators =
    subst (λ (k : ℕ). ReadsRows (counted_after (codes "relators") most_relators (relator_after n)) lines (record { keyword = codes "relators"; fields = decimal k ∷ [] } ∷ map (λ r. relator_row r.at r.moves r.word) p.relators)) many
    (counted_read (codes "relators") most_relators (relator_after n) lines (map (λ r. relator_row r.at r.moves r.word) p.relators)
    (written_shown 114 (codes "elators") refl) (omega (arith, many, i.few_relators)) (omega (arith, many, i.few_relators)) (relators_read n p.relators h i.relators)) in
    subst (ReadsRows (parts_after n end vs) (parts_told p)) (sym (append_assoc (tree_rows 0 p.tree) generators relators))
    (reads_then (times (tree_edge_after n) (length vs - 1))
    (λ es. counted_after (codes "generators") most_level_edges (generator_after n) es.1 >>= λ gs. counted_after (codes "relators") most_relators (relator_after n) gs.1 >>= λ rs. Ok (parts_with end vs es.0 gs.0 rs.0, rs.1))
    edges (parts_told p) (tree_rows 0 p.tree) (generators ++ relators)
    (subst (λ (k : ℕ). ReadsRows (times (tree_edge_after n) k) edges (tree_rows 0 p.tree)) (omega (arith, back.1, i.entries))
    (edges_read n 0 p.tree h (omega (arith, i.entries, i.few)) i.parents))
    (reads_then (counted_after (codes "generators") most_level_edges (generator_after n))
    (λ gs. counted_after (codes "relators") most_relators (relator_after n) gs.1 >>= λ rs. Ok (parts_with end vs edges gs.0 rs.0, rs.1))
    p.generators (parts_told p) generators relators
    (counted_read (codes "generators") most_level_edges (generator_after n) p.generators (map (λ g. generator_row g.0 g.1) p.generators)
    (written_shown 103 (codes "enerators") refl) (omega (arith, i.few_generators)) i.few_generators (generators_read n p.generators h i.generators))
    (reads_as (counted_after (codes "relators") most_relators (relator_after n)) (λ rs. Ok (parts_with end vs edges p.generators rs.0, rs.1)) lines (parts_told p) relators relators_told (λ q. ap (λ x. Ok (x, q)) told))))
