-- What presents a stabiliser is read exactly from what its lines tell: for the law on certificates.
use Rattle.std.proofs.Common.{◌≡◌, ℕ, ◌-◌, ◌^◌, ◌<◌, ◌≤◌, Bool, true, false, cond, List, [], ◌∷◌, ◌++◌, length, map, refl, sym, ap, ◌∙◌, subst, arith, append-nil, None, Some, Result, Ok, Err}
use Rattle.std.specs.Prelude.{◌&&◌, codes}
use Rattle.std.specs.declared.option.Option.{Option}
use Rattle.wh_words.specs.Limits.{most_level_edges, most_relators}
use Rattle.wh_words.specs.Tuples.{TupleData}
use Rattle.wh_words.specs.Moves.{Move}
use Rattle.wh_lines.specs.declared.read_error.ReadError.{ReadError}
use Rattle.wh_lines.specs.declared.read_error.ReadError.TheVariants as errors
use Rattle.wh_lines.specs.Lines.{are}
use Rattle.wh_lines.specs.Readings.{◌>>=◌, or_bad_line, refused_as}
use Rattle.wh_lines.specs.Rows.{Row, number_row}
use Rattle.wh_lines.specs.KeptLines.{Kept, Rest}
use Rattle.wh_lines.specs.KeptLines.Rest.{line, bad_byte, end}
use Rattle.wh_lines.specs.LineReadings.{Reading, line_after, times}
use Rattle.wh_lines.proofs.Equations.{bind_ok, ok_is, unless_ok}
use Rattle.wh_lines.proofs.NextLines.{line_told}
use Rattle.wh_lines.proofs.ExactReadings.{Exact, Then, Headed, Nothing, OneRow, Rows, exact_none, exact_then, exact_head, exact_line, exact_as, exact_times}
use Rattle.wh_fields.specs.MoveFields.{moves_at}
use Rattle.wh_fields.specs.StabiliserFields.{TreeEdgeData, tree_edge_in, generator_in, RelatorLineData, relator_in}
use Rattle.wh_fields.specs.Laws.{IsTreeEdgeLine, IsGeneratorLine, IsRelatorLine}
use Rattle.wh_fields.proofs.StabiliserLaws.{reads_tree_edges, reads_generators, reads_relators}
use Rattle.wh_data.specs.AnswerData.{PartsData}
use Rattle.wh_data.specs.AnswerData.StabVerdictData.{done}
use Rattle.wh_data.specs.AnswerData.AnswerData.{stabiliser}
use Rattle.wh_data.specs.RootPlaces.{root_place}
use Rattle.wh_text.specs.Certificates.{in_answer, moves_after, SideRead, ended_after, side_after, number_in, level_after, is_undecided_in, unless_undecided, stab_trace_after, tree_edge_after, generator_after, relator_after, counted_after, PartsRead, tree_with, loop_of, parts_with, parts_after, AnswerRead, with_parts, with_stab}
use Rattle.wh_text.specs.CertificateTexts.{IsLevelText, IsTreeRow, IsGeneratorRow, IsRelatorRow, AreCountedRows, IsPartsText, IsStabText}
use Rattle.wh_text.proofs.ExactLines.{alone, IsSideRead, exact_side, exact_level, number_is_row, number_row_back}

-- ---- lines
-- what is told of a line that isn't refused
line_some : {A : Type 0} (l : ℕ) (o : Option A) (x : A) → or_bad_line l o ≡ Ok x → o ≡ Some x
line_some l None x e = absurd (cc)
line_some l (Some y) x e = ap (λ v. Some v) (ok_is y x e)

pub exact_tree_edge : (n : ℕ) → n ≤ 26 → Exact (tree_edge_after n) (OneRow (IsTreeRow n))
unfolding tree_edge_after
exact_tree_edge n h =
    exact_line (codes "tree") (λ k. or_bad_line k.number (tree_edge_in n k.fields)) (IsTreeRow n)
    (λ k d some is e. (is, (reads_tree_edges n k.fields d h).0 (line_some k.number (tree_edge_in n k.fields) d e)))
    (λ r k d tells is. (is.0, ap (or_bad_line k.number) ((reads_tree_edges n k.fields d h).1 (subst (λ (fs : List (List ℕ)). IsTreeEdgeLine n fs d) (sym tells.same) is.1))))

pub exact_generator : (n : ℕ) → n ≤ 26 → Exact (generator_after n) (OneRow (IsGeneratorRow n))
unfolding generator_after
exact_generator n h =
    exact_line (codes "generator") (λ k. or_bad_line k.number (generator_in n k.fields)) (IsGeneratorRow n)
    (λ k d some is e. (is, (reads_generators n k.fields d h).0 (line_some k.number (generator_in n k.fields) d e)))
    (λ r k d tells is. (is.0, ap (or_bad_line k.number) ((reads_generators n k.fields d h).1 (subst (λ (fs : List (List ℕ)). IsGeneratorLine n fs d) (sym tells.same) is.1))))

pub exact_relator : (n : ℕ) → n ≤ 26 → Exact (relator_after n) (OneRow (IsRelatorRow n))
unfolding relator_after
exact_relator n h =
    exact_line (codes "relator") (λ k. or_bad_line k.number (relator_in n k.fields)) (IsRelatorRow n)
    (λ k d some is e. (is, (reads_relators n k.fields d h).0 (line_some k.number (relator_in n k.fields) d e)))
    (λ r k d tells is. (is.0, ap (or_bad_line k.number) ((reads_relators n k.fields d h).1 (subst (λ (fs : List (List ℕ)). IsRelatorLine n fs d) (sym tells.same) is.1))))

-- ---- counted lines
abbrev pub CountRow : List ℕ → ℕ → Row → ℕ → Type 0
CountRow keyword most r size = (r ≡ number_row keyword size) × (0 ≤ size) × (size ≤ most)

pub counted_there : {A : Type 0} (keyword : List ℕ) (most : ℕ) (T : Row → A → Type 0) (rows : List Row) (xs : List A) → Headed (CountRow keyword most) (Rows T) rows xs → AreCountedRows keyword most T rows xs
counted_there keyword most T rows xs s = record {
  item_rows = s.later;
  parts = s.parts ∙ ap (λ r. r ∷ s.later) (s.one.0 ∙ ap (number_row keyword) (sym s.two.count));
  few = omega (arith, s.one.2, s.two.count);
  items = s.two.each;
}

counted_again : {A : Type 0} (keyword : List ℕ) (most : ℕ) (T : Row → A → Type 0) (rows : List Row) (xs : List A) → AreCountedRows keyword most T rows xs → Headed (CountRow keyword most) (Rows T) rows xs
counted_again keyword most T rows xs s = record { x = length xs; head = number_row keyword (length xs); later = s.item_rows; parts = s.parts; one = (refl, omega arith, s.few); two = record { each = s.items; count = refl } }

pub exact_counted : {A : Type 0} (keyword : List ℕ) (most : ℕ) (each : Reading → Result (A × Reading) ReadError) (T : Row → A → Type 0) → most < 2 ^ 64 → Exact each (OneRow T) → Exact (counted_after keyword most each) (AreCountedRows keyword most T)
exact_counted keyword most each T small h =
    exact_as (counted_after keyword most each) (Headed (CountRow keyword most) (Rows T)) (AreCountedRows keyword most T) (counted_there keyword most T) (counted_again keyword most T)
    (exact_head keyword (λ k. or_bad_line k.number (number_in 0 most k.fields)) (λ a. times each a.0 a.1) (CountRow keyword most) (Rows T)
    (λ k size some is e. number_is_row keyword 0 most k size is e)
    (λ r k size tells is. number_row_back keyword 0 most r k size (omega (arith, is.2, small)) tells is)
    (λ size. exact_times each T size h))

-- ---- what presents a stabiliser
abbrev pub GeneratorRows : ℕ → List Row → List (ℕ × Move) → Type 0
GeneratorRows n = AreCountedRows (codes "generators") most_level_edges (IsGeneratorRow n)

abbrev pub RelatorRows : ℕ → List Row → List RelatorLineData → Type 0
RelatorRows n = AreCountedRows (codes "relators") most_relators (IsRelatorRow n)

abbrev pub PartRows : ℕ → TupleData → List TupleData → List Row → PartsRead → Type 0
PartRows n u vs =
    Then (Rows (IsTreeRow n) (length vs - 1)) (λ es.
    Then (GeneratorRows n) (λ gs.
    Then (RelatorRows n) (λ rs. Nothing (parts_with u vs es gs rs))))

abbrev pub IsPartsRead : ℕ → TupleData → List TupleData → List Row → PartsRead → Type 0
IsPartsRead n u vs rows x = IsPartsText n u rows x.parts x.heads × (x.parts.vertices ≡ vs)

pub parts_there : (n : ℕ) (u : TupleData) (vs : List TupleData) (rows : List Row) (x : PartsRead) → PartRows n u vs rows x → IsPartsRead n u vs rows x
parts_there n u vs rows x s =
    let g = s.two in
    let r = g.two in
    let last = alone (parts_with u vs s.x g.x r.x) x g.second r.first r.second r.parts r.two in
    subst (IsPartsRead n u vs rows) r.two.same (
      record {
        tree_rows = s.first;
        generator_rows = g.first;
        relator_rows = r.first;
        edges = s.x;
        told = r.x;
        parts = s.parts ∙ ap (λ rs. s.first ++ rs) (g.parts ∙ ap (λ rs. g.first ++ rs) last);
        tree = s.one.each;
        count = s.one.count;
        entries = refl;
        heads_of = refl;
        generators = g.one;
        relators = r.one;
        loops = refl;
      },
      refl,
    )

-- parts with the same tree, relators and numbers are the same
parts_same : (u : TupleData) (es : List TreeEdgeData) (rs : List RelatorLineData) (p : PartsData) (heads : List ℕ) → p.tree ≡ tree_with (root_place u p.vertices) es → p.relators ≡ map loop_of rs → heads ≡ map (λ e. e.head) es →
    parts_with u p.vertices es p.generators rs ≡ record { parts = p; heads = heads }
parts_same u es rs p heads tree loops of_heads =
    ap (λ t. record { parts = record { vertices = p.vertices; tree = t; generators = p.generators; relators = map loop_of rs }; heads = map (λ e. e.head) es }) (sym tree)
    ∙ ap (λ ls. record { parts = record { vertices = p.vertices; tree = p.tree; generators = p.generators; relators = ls }; heads = map (λ e. e.head) es }) (sym loops)
    ∙ ap (λ hs. record { parts = p; heads = hs }) (sym of_heads)

told_again : (n : ℕ) (u : TupleData) (rows : List Row) (x : PartsRead) → IsPartsText n u rows x.parts x.heads → PartRows n u x.parts.vertices rows x
told_again n u rows x s = record {
  x = s.edges;
  first = s.tree_rows;
  second = s.generator_rows ++ s.relator_rows;
  parts = s.parts;
  one = record { each = s.tree; count = s.count };
  two = record {
    x = x.parts.generators;
    first = s.generator_rows;
    second = s.relator_rows;
    parts = refl;
    one = s.generators;
    two = record {
      x = s.told;
      first = s.relator_rows;
      second = [];
      parts = sym (append-nil s.relator_rows);
      one = s.relators;
      two = record { none = refl; same = parts_same u s.edges s.told x.parts x.heads s.entries s.loops s.heads_of };
    };
  };
}

parts_again : (n : ℕ) (u : TupleData) (vs : List TupleData) (rows : List Row) (x : PartsRead) → IsPartsRead n u vs rows x → PartRows n u vs rows x
parts_again n u vs rows x s = subst (λ (ts : List TupleData). PartRows n u ts rows x) s.1 (told_again n u rows x s.0)

pub exact_parts : (n : ℕ) (u : TupleData) (vs : List TupleData) → n ≤ 26 → Exact (parts_after n u vs) (IsPartsRead n u vs)
unfolding parts_after
exact_parts n u vs h =
    exact_as (parts_after n u vs) (PartRows n u vs) (IsPartsRead n u vs) (parts_there n u vs) (parts_again n u vs)
    (exact_then (times (tree_edge_after n) (length vs - 1))
    (λ es. counted_after (codes "generators") most_level_edges (generator_after n) es.1 >>= λ gs. counted_after (codes "relators") most_relators (relator_after n) gs.1 >>= λ rs. Ok (parts_with u vs es.0 gs.0 rs.0, rs.1))
    (Rows (IsTreeRow n) (length vs - 1)) (λ es. Then (GeneratorRows n) (λ gs. Then (RelatorRows n) (λ rs. Nothing (parts_with u vs es gs rs))))
    (exact_times (tree_edge_after n) (IsTreeRow n) (length vs - 1) (exact_tree_edge n h))
    (λ es. exact_then (counted_after (codes "generators") most_level_edges (generator_after n)) (λ gs. counted_after (codes "relators") most_relators (relator_after n) gs.1 >>= λ rs. Ok (parts_with u vs es gs.0 rs.0, rs.1))
    (GeneratorRows n) (λ gs. Then (RelatorRows n) (λ rs. Nothing (parts_with u vs es gs rs)))
    (exact_counted (codes "generators") most_level_edges (generator_after n) (IsGeneratorRow n) (omega arith) (exact_generator n h))
    (λ gs. exact_then (counted_after (codes "relators") most_relators (relator_after n)) (λ rs. Ok (parts_with u vs es gs rs.0, rs.1)) (RelatorRows n) (λ rs. Nothing (parts_with u vs es gs rs))
    (exact_counted (codes "relators") most_relators (relator_after n) (IsRelatorRow n) (omega arith) (exact_relator n h))
    (λ rs. exact_none (parts_with u vs es gs rs)))))

-- ---- unless it is undecided
pub undecided_ok : {A : Type 0} (r : Rest) (x : Result A ReadError) (y : A) → unless_undecided r x ≡ Ok y → x ≡ Ok y
undecided_ok (line k later) x y e = (unless_ok (are k.keyword (codes "verdict") && is_undecided_in k.fields) (errors.NoCertificate k.number) x y e).1
undecided_ok (bad_byte l c) x y e = e
undecided_ok (end l) x y e = e

-- A line with moves of a trace isn't a verdict line.
trace_decided : {A : Type 0} (n : ℕ) (p : Reading) (m : List Move × Reading) (x : Result A ReadError) → moves_after (codes "trace") n p ≡ Ok m → unless_undecided p.rest x ≡ x
unfolding moves_after
trace_decided n p m x e =
    let a = bind_ok (line_after (codes "trace") p) (λ k. refused_as in_answer (moves_at n k.0.number k.0.fields) >>= λ ms. Ok (ms, k.1)) m e in
    let line_is = line_told (codes "trace") p a.0 a.1 in
    ap (λ r. unless_undecided r x) line_is.0 ∙ ap (λ w. cond (are w (codes "verdict") && is_undecided_in a.0.0.fields) (Err (errors.NoCertificate a.0.0.number)) x) line_is.2

exact_undecided : {A : Type 0} (read : Reading → Result (A × Reading) ReadError) (S : List Row → A → Type 0) → ((p : Reading) (y : A × Reading) → read p ≡ Ok y → unless_undecided p.rest (read p) ≡ read p) → Exact read S →
    Exact (λ p. unless_undecided p.rest (read p)) S
exact_undecided read S decided h = record {
  is = λ p q x some e. h.is p q x some (undecided_ok p.rest (read p) (x, q) e);
  back = λ p q x rows told passes. let e = h.back p q x rows told passes in decided p (x, q) e ∙ e;
}

-- ---- the lines after the tuple
-- The lines of a side, a level and what presents a stabiliser.
abbrev pub stab_lines : ℕ → TupleData → Reading → Result (AnswerRead × Reading) ReadError
stab_lines n t p = side_after n (length t.words) p >>= λ s. with_parts n t s.0 s.1

-- the side is read in two halves
pub stab_split : (n : ℕ) (t : TupleData) (p : Reading) → with_stab n t p ≡ unless_undecided p.rest (stab_lines n t p)
unfolding stab_trace_after side_after
stab_split n t p = by p.rest (moves_after (codes "trace") n p)
  where
    joined : (r : Result (List Move × Reading) ReadError) →
        (r >>= λ ms. ended_after n (length t.words) ms.0 ms.1 >>= λ s. with_parts n t s.0 s.1) ≡ ((r >>= λ ms. ended_after n (length t.words) ms.0 ms.1) >>= λ s. with_parts n t s.0 s.1)
    joined (Ok ms) = refl
    joined (Err e) = refl

    by_line : (k : Kept) (b : Bool) (r : Result (List Move × Reading) ReadError) →
        (cond b (Err (errors.NoCertificate k.number)) r >>= λ ms. ended_after n (length t.words) ms.0 ms.1 >>= λ s. with_parts n t s.0 s.1)
        ≡ cond b (Err (errors.NoCertificate k.number)) ((r >>= λ ms. ended_after n (length t.words) ms.0 ms.1) >>= λ s. with_parts n t s.0 s.1)
    by_line k true r = refl
    by_line k false r = joined r

    by : (rest : Rest) (r : Result (List Move × Reading) ReadError) →
        (unless_undecided rest r >>= λ ms. ended_after n (length t.words) ms.0 ms.1 >>= λ s. with_parts n t s.0 s.1)
        ≡ unless_undecided rest ((r >>= λ ms. ended_after n (length t.words) ms.0 ms.1) >>= λ s. with_parts n t s.0 s.1)
    by (line k later) r = by_line k (are k.keyword (codes "verdict") && is_undecided_in k.fields) r
    by (bad_byte l c) r = joined r
    by (end l) r = joined r

abbrev pub Stabilises : ℕ → TupleData → List Row → AnswerRead → Type 0
Stabilises n t =
    Then (IsSideRead n (length t.words)) (λ s.
    Then (IsLevelText n (length t.words)) (λ vs.
    Then (IsPartsRead n s.side.end vs) (λ ps. Nothing (record { answer = stabiliser t (done s.side ps.parts); heads = s.heads; tree_heads = ps.heads }))))

exact_stab_lines : (n : ℕ) (t : TupleData) → n ≤ 26 → Exact (stab_lines n t) (Stabilises n t)
exact_stab_lines n t h =
    exact_then (side_after n (length t.words)) (λ s. with_parts n t s.0 s.1) (IsSideRead n (length t.words))
    (λ s. Then (IsLevelText n (length t.words)) (λ vs. Then (IsPartsRead n s.side.end vs) (λ ps. Nothing (record { answer = stabiliser t (done s.side ps.parts); heads = s.heads; tree_heads = ps.heads }))))
    (exact_side n (length t.words) h)
    (λ s. exact_then (level_after n (length t.words)) (λ vs. parts_after n s.side.end vs.0 vs.1 >>= λ ps. Ok (record { answer = stabiliser t (done s.side ps.0.parts); heads = s.heads; tree_heads = ps.0.heads }, ps.1))
    (IsLevelText n (length t.words)) (λ vs. Then (IsPartsRead n s.side.end vs) (λ ps. Nothing (record { answer = stabiliser t (done s.side ps.parts); heads = s.heads; tree_heads = ps.heads })))
    (exact_level n (length t.words) h)
    (λ vs. exact_then (parts_after n s.side.end vs) (λ ps. Ok (record { answer = stabiliser t (done s.side ps.0.parts); heads = s.heads; tree_heads = ps.0.heads }, ps.1))
    (IsPartsRead n s.side.end vs) (λ ps. Nothing (record { answer = stabiliser t (done s.side ps.parts); heads = s.heads; tree_heads = ps.heads }))
    (exact_parts n s.side.end vs h)
    (λ ps. exact_none (record { answer = stabiliser t (done s.side ps.parts); heads = s.heads; tree_heads = ps.heads }))))

-- what is read begins with a trace
stab_decided : (n : ℕ) (t : TupleData) (p : Reading) (y : AnswerRead × Reading) → stab_lines n t p ≡ Ok y → unless_undecided p.rest (stab_lines n t p) ≡ stab_lines n t p
unfolding side_after
stab_decided n t p y e =
    let a = bind_ok (side_after n (length t.words) p) (λ s. with_parts n t s.0 s.1) y e in
    let b = bind_ok (moves_after (codes "trace") n p) (λ ms. ended_after n (length t.words) ms.0 ms.1) a.0 a.1 in
    trace_decided n p b.0 (stab_lines n t p) b.1

-- The same is read in another way.
exact_by : {A : Type 0} (read other : Reading → Result (A × Reading) ReadError) (S : List Row → A → Type 0) → ((p : Reading) → other p ≡ read p) → Exact read S → Exact other S
exact_by read other S e h = record { is = λ p q x some f. h.is p q x some (sym (e p) ∙ f); back = λ p q x rows told passes. e p ∙ h.back p q x rows told passes }

pub exact_stab : (n : ℕ) (t : TupleData) → n ≤ 26 → Exact (with_stab n t) (Stabilises n t)
exact_stab n t h = exact_by (λ p. unless_undecided p.rest (stab_lines n t p)) (with_stab n t) (Stabilises n t) (stab_split n t) (exact_undecided (stab_lines n t) (Stabilises n t) (stab_decided n t) (exact_stab_lines n t h))

-- ---- in the words of what is written
-- a side, a level and what presents the stabiliser are an answer that isn't undecided
pub stab_there : (n : ℕ) (t : TupleData) (rows side level after : List Row) (s : SideRead) (vs : List TupleData) (ps : PartsRead) → rows ≡ side ++ (level ++ after) →
    IsSideRead n (length t.words) side s → IsLevelText n (length t.words) level vs → IsPartsRead n s.side.end vs after ps → IsStabText n (length t.words) rows (done s.side ps.parts) s.heads ps.heads
stab_there n t rows side level after s vs ps parts one two three = (side, level, after, parts, one, subst (IsLevelText n (length t.words) level) (sym three.1) two, three.0)
