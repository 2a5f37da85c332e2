-- A certificate that was read is numbered: its parts are of one rank, and each line and each `flow` line is counted.
use Rattle.std.proofs.Common.{◌≡◌, ℕ, ◌+◌, ◌-◌, ◌*◌, ◌≤◌, ltb, ◌==◌, cond, List, [], ◌∷◌, ◌++◌, length, map, sym, ap, refl, subst, arith, None, Some, Result, Ok, Err, length-append}
use Rattle.std.specs.Prelude.{codes, IfSome}
use Rattle.std.specs.declared.option.Option.{Option}
use Rattle.std.specs.List.{All}
use Rattle.std.proofs.lemmas.List.{length-map}
use Rattle.std.proofs.lemmas.List.Elements.{All-nil, All-cons, All-map}
use Rattle.wh_words.specs.Tuples.{TupleData}
use Rattle.wh_words.specs.Moves.{Move, Kind}
use Rattle.wh_data.specs.declared.command.Command.{Command}
use Rattle.wh_data.specs.declared.command.Command.TheVariants as commands
use Rattle.wh_lines.specs.declared.read_error.ReadError.{ReadError}
use Rattle.wh_lines.specs.declared.read_error.ReadError.TheVariants as errors
use Rattle.wh_lines.specs.Lines.{Field}
use Rattle.wh_lines.specs.Readings.{◌>>=◌, or_bad_line, refused_as}
use Rattle.wh_fields.specs.MoveFields.{kind_in, move_with, or_bad_move, move_at, moves_at}
use Rattle.wh_fields.specs.FlowFields.{FlowData, flow_in}
use Rattle.wh_fields.specs.TupleFields.{tuple_at}
use Rattle.wh_fields.specs.StabiliserFields.{TreeEdgeData, tree_edge_in, generator_in, RelatorLineData, relator_in}
use Rattle.wh_fields.specs.Laws.{AreMoveFields}
use Rattle.wh_text.specs.RankLines.{greatest_rank, rank_at, no_rank, rank_after}
use Rattle.wh_lines.specs.KeptLines.{Kept}
use Rattle.wh_lines.specs.LineReadings.{Reading, start, line_after, end_after, times}
use Rattle.wh_data.specs.AnswerData.{PartsData, CertificateData}
use Rattle.wh_data.specs.AnswerData.VerdictData.{yes, no_length, no_level}
use Rattle.wh_data.specs.AnswerData.StabVerdictData.{done}
use Rattle.wh_data.specs.AnswerData.AnswerData.{reduce, decide, stabiliser}
use Rattle.wh_data.specs.RootPlaces.{root_place}
use Rattle.wh_text.specs.Certificates.{tuple_after, like_of, like_after, moves_after, flow_after, SideRead, side_with, with_flows, ended_after, side_after, number_in, level_after, VerdictWord, VerdictRead, yes_after, sides_after, no_length_after, no_level_after, verdict_in, verdict_with, verdict_after, stab_trace_after, tree_edge_after, generator_after, relator_after, counted_with, counted_after, PartsRead, loop_of, parts_with, parts_after, AnswerRead, reduced_after, decided_after, with_parts, with_stab, stabilised_after, answer_with, heading_in, heading_after, in_answer, with_end, done_after, answer_after, certificate}
use Rattle.wh_words.specs.Limits.{most_level_rank, most_level_tuples, most_level_edges, most_relators, most_stabiliser_rank}
use Rattle.wh_data.specs.Limits.{most_answer_bytes}
use Rattle.wh_text.specs.Certificates.VerdictWord.{a_yes, a_no_length, a_no_level}
use Rattle.wh_data.specs.Numberings.{IsSideOfRank, IsVerdictOfRank, ArePartsOfRank, IsAnswerOfOneRank, side_lines, verdict_lines, tree_lines, answer_lines, verdict_flows, flow_lines, answer_tree_lines, IsNumbered}
use Rattle.wh_lines.proofs.Equations.{bind_ok, ok_is, ok_same, unless_ok, if_ok, refused_ok}
use Rattle.wh_text.proofs.RankLaws.{rank_is}
use Rattle.wh_fields.proofs.TupleLaws.{tuple_made}
use Rattle.wh_fields.proofs.StabiliserLaws.{reads_tree_edges, reads_generators, reads_relators}
use Rattle.wh_lines.proofs.NextLines.{line_told}
use Rattle.wh_text.proofs.ExactLines.{number_is_row}
use Rattle.wh_text.proofs.FirstTraces.{trace_told}
use Rattle.wh_text.proofs.Trees.{root_small, tree_length, tree_count, tree_root, tree_all}
use Rattle.wh_lines.proofs.TakenLines.{line_taken, end_taken, Took, one_line, times_took}
use Rattle.wh_lines.proofs.ItemReadings.{items_told}

-- ---- tuples
tuple_rank : (n l : ℕ) (fs : List Field) (t : TupleData) → refused_as in_answer (tuple_at n l fs) ≡ Ok t → t.rank ≡ n
tuple_rank n l fs t e = ap (λ (v : TupleData). v.rank) (tuple_made n l fs t (refused_ok in_answer (tuple_at n l fs) t e)).cyclic

tuple_took : (keyword : List ℕ) (n : ℕ) (p : Reading) (r : TupleData × Reading) → tuple_after keyword n p ≡ Ok r → Took (λ t. t.rank ≡ n) 1 p r
unfolding tuple_after
tuple_took keyword n p r e =
    one_line (λ (t : TupleData). t.rank ≡ n) keyword (λ k. refused_as in_answer (tuple_at n k.0.number k.0.fields) >>= λ t. Ok (t, k.1)) p r (λ k h.
    let a = bind_ok (refused_as in_answer (tuple_at n k.0.number k.0.fields)) (λ t. Ok (t, k.1)) r h in
    (a.0, tuple_rank n k.0.number k.0.fields a.0 a.1, a.2)) e

like_took : (keyword : List ℕ) (n count : ℕ) (p : Reading) (r : TupleData × Reading) → like_after keyword n count p ≡ Ok r → Took (λ t. t.rank ≡ n) 1 p r
unfolding like_after like_of
like_took keyword n count p r e =
    one_line (λ (t : TupleData). t.rank ≡ n) keyword (λ k. like_of n count k.0 >>= λ t. Ok (t, k.1)) p r (λ k h.
    let a = bind_ok (like_of n count k.0) (λ t. Ok (t, k.1)) r h in
    let b = bind_ok (refused_as in_answer (tuple_at n k.0.number k.0.fields)) (λ t. cond (length t.words == count) (Ok t) (Err (errors.BadLine k.0.number))) a.0 a.1 in
    let same = (if_ok (length b.0.words == count) (errors.BadLine k.0.number) (Ok b.0) a.0 b.2).1 in
    (a.0, ok_same (λ (t : TupleData). t.rank ≡ n) b.0 a.0 same (tuple_rank n k.0.number k.0.fields b.0 b.1), a.2)) e

kind_rank : (n l c : ℕ) (o : Option Kind) (m : Move) → or_bad_move l c (move_with n o) ≡ Ok m → m.rank ≡ n
kind_rank n l c None m e = absurd (cc)
kind_rank n l c (Some kind) m e = sym (ap (λ (v : Move). v.rank) (ok_is (record { rank = n; kind = kind }) m e))

moves_took : (keyword : List ℕ) (n : ℕ) (p : Reading) (r : List Move × Reading) → moves_after keyword n p ≡ Ok r → Took (All (λ m. m.rank ≡ n)) 1 p r
unfolding moves_after
moves_took keyword n p r e =
    one_line (All (λ m. m.rank ≡ n)) keyword (λ k. refused_as in_answer (moves_at n k.0.number k.0.fields) >>= λ ms. Ok (ms, k.1)) p r (λ k h.
    let a = bind_ok (refused_as in_answer (moves_at n k.0.number k.0.fields)) (λ ms. Ok (ms, k.1)) r h in
    let b = refused_ok in_answer (moves_at n k.0.number k.0.fields) a.0 a.1 in
    (a.0, items_told (λ m. m.rank ≡ n) (move_at n k.0.number) (λ f m. kind_rank n k.0.number f.column (kind_in n f.bytes) m) k.0.fields a.0 b, a.2)) e

-- ---- sides
flow_took : (n : ℕ) (p : Reading) (r : FlowData × Reading) → flow_after n p ≡ Ok r → Took (λ _. Unit {0}) 1 p r
unfolding flow_after
flow_took n p r e =
    one_line (λ (_ : FlowData). Unit {0}) (codes "flow") (λ k. or_bad_line k.0.number (flow_in n k.0.fields) >>= λ f. Ok (f, k.1)) p r (λ k h.
    let a = bind_ok (or_bad_line k.0.number (flow_in n k.0.fields)) (λ f. Ok (f, k.1)) r h in
    (a.0, tt, a.2)) e

-- a side of rank n, and a head for each of its flows
abbrev IsSideRead : ℕ → SideRead → Type 0
IsSideRead n s = IsSideOfRank n s.side × (length s.heads ≡ n)

ended_took : (n count : ℕ) (ms : List Move) (p : Reading) (r : SideRead × Reading) → All (λ m. m.rank ≡ n) ms → ended_after n count ms p ≡ Ok r → Took (IsSideRead n) (n + 1) p r
ended_took n count ms p r trace e =
    let a = bind_ok (like_after (codes "end") n count p) (λ t. with_flows n ms t.0 t.1) r e in
    let b = bind_ok (times (flow_after n) n a.0.1) (λ fs. Ok (side_with ms a.0.0 fs.0, fs.1)) r a.2 in
    let end = like_took (codes "end") n count p a.0 a.1 in
    let flows = times_took (λ (_ : FlowData). Unit {0}) (flow_after n) (flow_took n) n a.0.1 b.0 b.1 in
    ok_same (Took (IsSideRead n) (n + 1) p) (side_with ms a.0.0 b.0.0, b.0.1) r b.2 (record {
      told = (
        record { end = end.told; moves = trace; flows = omega (arith, length-map b.0.0 (λ f. f.table), flows.told.0) },
        omega (arith, length-map b.0.0 (λ f. f.head), flows.told.0),
      );
      lines = omega (arith, end.lines, flows.lines);
    })

side_took : (n count : ℕ) (p : Reading) (r : SideRead × Reading) → side_after n count p ≡ Ok r → Took (IsSideRead n) (side_lines n) p r
unfolding side_after
side_took n count p r e =
    let a = bind_ok (moves_after (codes "trace") n p) (λ ms. ended_after n count ms.0 ms.1) r e in
    let trace = moves_took (codes "trace") n p a.0 a.1 in
    let ended = ended_took n count a.0.0 a.0.1 r trace.told a.2 in
    record { told = ended.told; lines = omega (arith, trace.lines, ended.lines) }

abbrev AreSidesRead : ℕ → SideRead × SideRead → Type 0
AreSidesRead n s = IsSideRead n s.0 × IsSideRead n s.1

sides_took : (n count : ℕ) (p : Reading) (r : (SideRead × SideRead) × Reading) → sides_after n count p ≡ Ok r → Took (AreSidesRead n) (2 * side_lines n) p r
unfolding sides_after
sides_took n count p r e =
    let a = bind_ok (side_after n count p) (λ s. side_after n count s.1 >>= λ t. Ok ((s.0, t.0), t.1)) r e in
    let b = bind_ok (side_after n count a.0.1) (λ t. Ok ((a.0.0, t.0), t.1)) r a.2 in
    let first = side_took n count p a.0 a.1 in
    let second = side_took n count a.0.1 b.0 b.1 in
    ok_same (Took (AreSidesRead n) (2 * side_lines n) p) ((a.0.0, b.0.0), b.0.1) r b.2 (record { told = (first.told, second.told); lines = omega (arith, first.lines, second.lines) })

-- ---- verdicts
-- a line that tells something
or_bad_line_ok : {A : Type 0} (l : ℕ) (o : Option A) (x : A) → or_bad_line l o ≡ Ok x → o ≡ Some x
or_bad_line_ok l None x e = absurd (cc)
or_bad_line_ok l (Some y) x e = ap (λ z. Some z) (ok_is y x e)

-- tuples of rank n, neither none nor too many
record IsLevelRead (n : ℕ) (ts : List TupleData) : Type 0 where
  ranks : All (λ t. t.rank ≡ n) ts
  some : 1 ≤ length ts
  few : length ts ≤ most_level_tuples

level_took : (n count : ℕ) (p : Reading) (r : List TupleData × Reading) → level_after n count p ≡ Ok r → Took (IsLevelRead n) (1 + length r.0) p r
unfolding level_after
level_took n count p r e =
    let a = bind_ok (line_after (codes "level") p) (λ k. or_bad_line k.0.number (number_in 1 most_level_tuples k.0.fields) >>= λ size. times (like_after (codes "at") n count) size k.1) r e in
    let b = bind_ok (or_bad_line a.0.0.number (number_in 1 most_level_tuples a.0.0.fields)) (λ size. times (like_after (codes "at") n count) size a.0.1) r a.2 in
    let size = number_is_row (codes "level") 1 most_level_tuples a.0.0 b.0 (line_told (codes "level") p a.0 a.1).2 b.1 in
    let tuples = times_took (λ t. t.rank ≡ n) (like_after (codes "at") n count) (like_took (codes "at") n count) b.0 a.0.1 r b.2 in
    record {
      told = record { ranks = tuples.told.1; some = omega (arith, size.1, tuples.told.0); few = omega (arith, size.2, tuples.told.0) };
      lines = omega (arith, line_taken (codes "level") p a.0 a.1, tuples.told.0, tuples.lines);
    }

-- a verdict of rank n, and a head for each of its flows
abbrev IsVerdictRead : ℕ → VerdictRead → Type 0
IsVerdictRead n v = IsVerdictOfRank n v.verdict × (length v.heads ≡ verdict_flows n v.verdict)

abbrev TookVerdict : ℕ → Reading → VerdictRead × Reading → Type 0
TookVerdict n p r = Took (IsVerdictRead n) (verdict_lines n r.0.verdict) p r

two_heads : (n : ℕ) (s : SideRead × SideRead) → AreSidesRead n s → length (s.0.heads ++ s.1.heads) ≡ 2 * n
two_heads n s h = omega (arith, length-append s.0.heads s.1.heads, h.0.1, h.1.1)

yes_took : (n : ℕ) (p : Reading) (r : VerdictRead × Reading) → yes_after n p ≡ Ok r → TookVerdict n p r
yes_took n p r e =
    let a = bind_ok (moves_after (codes "moves") n p) (λ ms. Ok (record { verdict = yes ms.0; heads = [] }, ms.1)) r e in
    let moves = moves_took (codes "moves") n p a.0 a.1 in
    ok_same (TookVerdict n p) (record { verdict = yes a.0.0; heads = [] }, a.0.1) r a.2 (record { told = (moves.told, refl); lines = moves.lines })

no_length_took : (n count : ℕ) (p : Reading) (r : VerdictRead × Reading) → no_length_after n count p ≡ Ok r → TookVerdict n p r
no_length_took n count p r e =
    let a = bind_ok (sides_after n count p) (λ s. Ok (record { verdict = no_length s.0.0.side s.0.1.side; heads = s.0.0.heads ++ s.0.1.heads }, s.1)) r e in
    let sides = sides_took n count p a.0 a.1 in
    ok_same (TookVerdict n p) (record { verdict = no_length a.0.0.0.side a.0.0.1.side; heads = a.0.0.0.heads ++ a.0.0.1.heads }, a.0.1) r a.2
    (record { told = ((sides.told.0.0, sides.told.1.0), two_heads n a.0.0 sides.told); lines = sides.lines })

no_level_took : (n count : ℕ) (p : Reading) (r : VerdictRead × Reading) → n ≤ most_level_rank → no_level_after n count p ≡ Ok r → TookVerdict n p r
no_level_took n count p r small e =
    let a = bind_ok (sides_after n count p) (λ s. level_after n count s.1 >>= λ ts. Ok (record { verdict = no_level s.0.0.side s.0.1.side ts.0; heads = s.0.0.heads ++ s.0.1.heads }, ts.1)) r e in
    let b = bind_ok (level_after n count a.0.1) (λ ts. Ok (record { verdict = no_level a.0.0.0.side a.0.0.1.side ts.0; heads = a.0.0.0.heads ++ a.0.0.1.heads }, ts.1)) r a.2 in
    let sides = sides_took n count p a.0 a.1 in
    let level = level_took n count a.0.1 b.0 b.1 in
    ok_same (TookVerdict n p) (record { verdict = no_level a.0.0.0.side a.0.0.1.side b.0.0; heads = a.0.0.0.heads ++ a.0.0.1.heads }, b.0.1) r b.2 (record {
      told = ((sides.told.0.0, sides.told.1.0, level.told.ranks, small), two_heads n a.0.0 sides.told);
      lines = omega (arith, sides.lines, level.lines);
    })

verdict_with_took : (n count : ℕ) (word : VerdictWord) (p : Reading) (r : VerdictRead × Reading) → n ≤ most_level_rank → verdict_with n count word p ≡ Ok r → TookVerdict n p r
verdict_with_took n count a_yes p r small e = yes_took n p r e
verdict_with_took n count a_no_length p r small e = no_length_took n count p r e
verdict_with_took n count a_no_level p r small e = no_level_took n count p r small e

verdict_took : (n count : ℕ) (p : Reading) (r : VerdictRead × Reading) → n ≤ most_level_rank → verdict_after n count p ≡ Ok r → Took (IsVerdictRead n) (1 + verdict_lines n r.0.verdict) p r
unfolding verdict_after
verdict_took n count p r small e =
    let a = bind_ok (line_after (codes "verdict") p) (λ k. verdict_in k.0.number k.0.fields >>= λ word. verdict_with n count word k.1) r e in
    let b = bind_ok (verdict_in a.0.0.number a.0.0.fields) (λ word. verdict_with n count word a.0.1) r a.2 in
    let verdict = verdict_with_took n count b.0 a.0.1 r small b.2 in
    record { told = verdict.told; lines = omega (arith, line_taken (codes "verdict") p a.0 a.1, verdict.lines) }

-- ---- stabilisers
edge_took : (n : ℕ) → n ≤ 26 → (p : Reading) (r : TreeEdgeData × Reading) → tree_edge_after n p ≡ Ok r → Took (λ e. e.move.rank ≡ n) 1 p r
unfolding tree_edge_after
edge_took n h p r e =
    one_line (λ (e : TreeEdgeData). e.move.rank ≡ n) (codes "tree") (λ k. or_bad_line k.0.number (tree_edge_in n k.0.fields) >>= λ e. Ok (e, k.1)) p r (λ k i.
    let a = bind_ok (or_bad_line k.0.number (tree_edge_in n k.0.fields)) (λ e. Ok (e, k.1)) r i in
    (a.0, ((reads_tree_edges n k.0.fields a.0 h).0 (or_bad_line_ok k.0.number (tree_edge_in n k.0.fields) a.0 a.1)).rank, a.2)) e

generator_took : (n : ℕ) → n ≤ 26 → (p : Reading) (r : (ℕ × Move) × Reading) → generator_after n p ≡ Ok r → Took (λ g. g.1.rank ≡ n) 1 p r
unfolding generator_after
generator_took n h p r e =
    one_line (λ (g : ℕ × Move). g.1.rank ≡ n) (codes "generator") (λ k. or_bad_line k.0.number (generator_in n k.0.fields) >>= λ g. Ok (g, k.1)) p r (λ k i.
    let a = bind_ok (or_bad_line k.0.number (generator_in n k.0.fields)) (λ g. Ok (g, k.1)) r i in
    (a.0, ((reads_generators n k.0.fields a.0 h).0 (or_bad_line_ok k.0.number (generator_in n k.0.fields) a.0 a.1)).rank, a.2)) e

way_ranks : (n : ℕ) (fs : List (List ℕ)) (ms : List Move) → AreMoveFields n fs ms → All (λ m. m.rank ≡ n) ms
way_ranks n [] [] h = All-nil (λ m. m.rank ≡ n)
way_ranks n [] (m ∷ ms) h = absurd h
way_ranks n (f ∷ fs) [] h = absurd h
way_ranks n (f ∷ fs) (m ∷ ms) h = All-cons (λ m. m.rank ≡ n) m ms h.0 (way_ranks n fs ms h.2)

relator_took : (n : ℕ) → n ≤ 26 → (p : Reading) (r : RelatorLineData × Reading) → relator_after n p ≡ Ok r → Took (λ r. All (λ m. m.rank ≡ n) r.moves) 1 p r
unfolding relator_after
relator_took n h p r e =
    one_line (λ (r : RelatorLineData). All (λ m. m.rank ≡ n) r.moves) (codes "relator") (λ k. or_bad_line k.0.number (relator_in n k.0.fields) >>= λ r. Ok (r, k.1)) p r (λ k i.
    let a = bind_ok (or_bad_line k.0.number (relator_in n k.0.fields)) (λ r. Ok (r, k.1)) r i in
    let told = (reads_relators n k.0.fields a.0 h).0 (or_bad_line_ok k.0.number (relator_in n k.0.fields) a.0 a.1) in
    (a.0, way_ranks n told.fields a.0.moves told.moves, a.2)) e

-- as many as a line tells, which are at most so many
record AreCounted {A : Type 0} (IsTold : A → Type 0) (most : ℕ) (xs : List A) : Type 0 where
  each : All IsTold xs
  few : length xs ≤ most

counted_took : {A : Type 0} (IsTold : A → Type 0) (keyword : List ℕ) (most : ℕ) (read : Reading → Result (A × Reading) ReadError) → ((p : Reading) (r : A × Reading) → read p ≡ Ok r → Took IsTold 1 p r) →
    (p : Reading) (r : List A × Reading) → counted_after keyword most read p ≡ Ok r → Took (AreCounted IsTold most) (1 + length r.0) p r
counted_took IsTold keyword most read one p r e =
    let a = bind_ok (line_after keyword p) (λ k. counted_with most read k.0 k.1) r e in
    let b = bind_ok (or_bad_line a.0.0.number (number_in 0 most a.0.0.fields)) (λ size. times read size a.0.1) r a.2 in
    let size = number_is_row keyword 0 most a.0.0 b.0 (line_told keyword p a.0 a.1).2 b.1 in
    let items = times_took IsTold read one b.0 a.0.1 r b.2 in
    record {
      told = record { each = items.told.1; few = omega (arith, size.2, items.told.0) };
      lines = omega (arith, line_taken keyword p a.0 a.1, items.told.0, items.lines);
    }

loops_ranks : (n : ℕ) (rs : List RelatorLineData) → All (λ r. All (λ m. m.rank ≡ n) r.moves) rs → All (λ r. All (λ m. m.rank ≡ n) r.moves) (map loop_of rs)
loops_ranks n rs all = All-map (λ r. All (λ m. m.rank ≡ n) r.moves) loop_of rs all

-- how many lines follow those of the level
abbrev later_lines : PartsData → ℕ
later_lines p = tree_lines p + length p.generators + length p.relators + 2

-- what presents the stabiliser of this end in rank n, and the number of a vertex for each `tree` line
record ArePartsRead (n : ℕ) (end : TupleData) (vs : List TupleData) (p : PartsRead) : Type 0 where
  parts : ArePartsOfRank n end p.parts
  many : length p.parts.vertices ≡ length vs
  heads : length p.heads ≡ tree_lines p.parts

parts_took : (n : ℕ) (end : TupleData) (vs : List TupleData) (p : Reading) (r : PartsRead × Reading) → n ≤ most_stabiliser_rank → IsLevelRead n vs → parts_after n end vs p ≡ Ok r →
    Took (ArePartsRead n end vs) (later_lines r.0.parts) p r
unfolding parts_after
parts_took n end vs p r small level e =
    let low : n ≤ 26 = omega (arith, small) in
    let a = bind_ok (times (tree_edge_after n) (length vs - 1) p) (λ es. counted_after (codes "generators") most_level_edges (generator_after n) es.1 >>= λ gs. counted_after (codes "relators") most_relators (relator_after n) gs.1 >>= λ rs. Ok (parts_with end vs es.0 gs.0 rs.0, rs.1)) r e in
    let b = bind_ok (counted_after (codes "generators") most_level_edges (generator_after n) a.0.1) (λ gs. counted_after (codes "relators") most_relators (relator_after n) gs.1 >>= λ rs. Ok (parts_with end vs a.0.0 gs.0 rs.0, rs.1)) r a.2 in
    let c = bind_ok (counted_after (codes "relators") most_relators (relator_after n) b.0.1) (λ rs. Ok (parts_with end vs a.0.0 b.0.0 rs.0, rs.1)) r b.2 in
    let edges = times_took (λ e. e.move.rank ≡ n) (tree_edge_after n) (edge_took n low) (length vs - 1) p a.0 a.1 in
    let generators = counted_took (λ g. g.1.rank ≡ n) (codes "generators") most_level_edges (generator_after n) (generator_took n low) a.0.1 b.0 b.1 in
    let relators = counted_took (λ r. All (λ m. m.rank ≡ n) r.moves) (codes "relators") most_relators (relator_after n) (relator_took n low) b.0.1 c.0 c.1 in
    let root = root_place end vs in
    let there : root ≤ length a.0.0 = omega (arith, root_small end vs, edges.told.0) in
    let lines = tree_count a.0.0 root in
    let loops : length (map loop_of c.0.0) ≡ length c.0.0 = length-map c.0.0 loop_of in
    ok_same (λ (x : PartsRead × Reading). Took (ArePartsRead n end vs) (later_lines x.0.parts) p x) (parts_with end vs a.0.0 b.0.0 c.0.0, c.0.1) r c.2 (record {
      told = record {
        parts = record {
          low = small;
          vertices = level.ranks;
          some = level.some;
          few = level.few;
          count = omega (arith, tree_length a.0.0 root there, edges.told.0, level.some);
          root = λ v. tree_root a.0.0 root v there;
          parents = tree_all (λ e. IfSome e (λ s. s.1.rank ≡ n)) a.0.0 root tt edges.told.1;
          generators = generators.told.each;
          few_generators = generators.told.few;
          relators = loops_ranks n c.0.0 relators.told.each;
          few_relators = omega (arith, loops, relators.told.few);
        };
        many = refl {a = length vs};
        heads = omega (arith, length-map a.0.0 (λ e. e.head), lines);
      };
      lines = omega (arith, edges.told.0, edges.lines, generators.lines, relators.lines, lines, loops);
    })

-- ---- answers
-- An answer of one rank was read, a head for each of its flows and each of its `tree` lines, and all its lines but the first two and the last.
record TookAnswer (p : Reading) (r : AnswerRead × Reading) : Type 0 where
  answer : IsAnswerOfOneRank r.0.answer
  heads : length r.0.heads ≡ flow_lines r.0.answer
  tree_heads : length r.0.tree_heads ≡ answer_tree_lines r.0.answer
  lines : length r.1.taken + 3 ≡ answer_lines r.0.answer + length p.taken

reduced_took : (n : ℕ) (p : Reading) (r : AnswerRead × Reading) → reduced_after n p ≡ Ok r → TookAnswer p r
unfolding reduced_after
reduced_took n p r e =
    let a = bind_ok (tuple_after (codes "tuple") n p) (λ t. side_after n (length t.0.words) t.1 >>= λ s. Ok (record { answer = reduce t.0 s.0.side; heads = s.0.heads; tree_heads = [] }, s.1)) r e in
    let b = bind_ok (side_after n (length a.0.0.words) a.0.1) (λ s. Ok (record { answer = reduce a.0.0 s.0.side; heads = s.0.heads; tree_heads = [] }, s.1)) r a.2 in
    let tuple = tuple_took (codes "tuple") n p a.0 a.1 in
    let side = side_took n (length a.0.0.words) a.0.1 b.0 b.1 in
    ok_same (TookAnswer p) (record { answer = reduce a.0.0 b.0.0.side; heads = b.0.0.heads; tree_heads = [] }, b.0.1) r b.2 (record {
      answer = subst (λ (k : ℕ). IsSideOfRank k b.0.0.side) (sym tuple.told) side.told.0;
      heads = omega (arith, side.told.1, tuple.told);
      tree_heads = refl;
      lines = omega (arith, tuple.told, tuple.lines, side.lines);
    })

decided_took : (n : ℕ) (p : Reading) (r : AnswerRead × Reading) → n ≤ most_level_rank → decided_after n p ≡ Ok r → TookAnswer p r
unfolding decided_after
decided_took n p r small e =
    let a = bind_ok (tuple_after (codes "first") n p) (λ s. like_after (codes "second") n (length s.0.words) s.1 >>= λ t. verdict_after n (length s.0.words) t.1 >>= λ v. Ok (record { answer = decide s.0 t.0 v.0.verdict; heads = v.0.heads; tree_heads = [] }, v.1)) r e in
    let b = bind_ok (like_after (codes "second") n (length a.0.0.words) a.0.1) (λ t. verdict_after n (length a.0.0.words) t.1 >>= λ v. Ok (record { answer = decide a.0.0 t.0 v.0.verdict; heads = v.0.heads; tree_heads = [] }, v.1)) r a.2 in
    let c = bind_ok (verdict_after n (length a.0.0.words) b.0.1) (λ v. Ok (record { answer = decide a.0.0 b.0.0 v.0.verdict; heads = v.0.heads; tree_heads = [] }, v.1)) r b.2 in
    let first = tuple_took (codes "first") n p a.0 a.1 in
    let second = like_took (codes "second") n (length a.0.0.words) a.0.1 b.0 b.1 in
    let verdict = verdict_took n (length a.0.0.words) b.0.1 c.0 small c.1 in
    ok_same (TookAnswer p) (record { answer = decide a.0.0 b.0.0 c.0.0.verdict; heads = c.0.0.heads; tree_heads = [] }, c.0.1) r c.2 (record {
      answer = (omega (arith, first.told, second.told), subst (λ (k : ℕ). IsVerdictOfRank k c.0.0.verdict) (sym first.told) verdict.told.0);
      heads = omega (arith, verdict.told.1, ap (λ k. verdict_flows k c.0.0.verdict) first.told);
      tree_heads = refl;
      lines = omega (arith, first.lines, second.lines, verdict.lines, ap (λ k. verdict_lines k c.0.0.verdict) first.told);
    })

-- what was read of a tuple, its side, and what presents its stabiliser
abbrev stab_read : TupleData → SideRead → PartsRead → AnswerRead
stab_read t s ps = record { answer = stabiliser t (done s.side ps.parts); heads = s.heads; tree_heads = ps.heads }

stabilised_took : (n : ℕ) (p : Reading) (r : AnswerRead × Reading) → n ≤ most_stabiliser_rank → stabilised_after n p ≡ Ok r → TookAnswer p r
unfolding stabilised_after
stabilised_took n p r small e =
    let a = bind_ok (tuple_after (codes "tuple") n p) (λ t. with_stab n t.0 t.1) r e in
    let count = length a.0.0.words in
    let b = bind_ok (stab_trace_after n a.0.1) (λ ms. ended_after n count ms.0 ms.1 >>= λ s. with_parts n a.0.0 s.0 s.1) r a.2 in
    let c = bind_ok (ended_after n count b.0.0 b.0.1) (λ s. with_parts n a.0.0 s.0 s.1) r b.2 in
    let d = bind_ok (level_after n count c.0.1) (λ vs. parts_after n c.0.0.side.end vs.0 vs.1 >>= λ ps. Ok (stab_read a.0.0 c.0.0 ps.0, ps.1)) r c.2 in
    let f = bind_ok (parts_after n c.0.0.side.end d.0.0 d.0.1) (λ ps. Ok (stab_read a.0.0 c.0.0 ps.0, ps.1)) r d.2 in
    let tuple = tuple_took (codes "tuple") n p a.0 a.1 in
    let trace = moves_took (codes "trace") n a.0.1 b.0 (trace_told n a.0.1 b.0 b.1) in
    let side = ended_took n count b.0.0 b.0.1 c.0 trace.told c.1 in
    let level = level_took n count c.0.1 d.0 d.1 in
    let parts = parts_took n c.0.0.side.end d.0.0 d.0.1 f.0 small level.told f.1 in
    ok_same (TookAnswer p) (stab_read a.0.0 c.0.0 f.0.0, f.0.1) r f.2 (record {
      answer = subst (λ (k : ℕ). IsSideOfRank k c.0.0.side × ArePartsOfRank k c.0.0.side.end f.0.0.parts) (sym tuple.told) (side.told.0, parts.told.parts);
      heads = omega (arith, side.told.1, tuple.told);
      tree_heads = parts.told.heads;
      lines = omega (arith, tuple.told, tuple.lines, trace.lines, side.lines, level.lines, parts.lines, parts.told.many);
    })

answer_with_took : (command : Command) (n : ℕ) (p : Reading) (r : AnswerRead × Reading) → n ≤ greatest_rank command → answer_with command n p ≡ Ok r → TookAnswer p r
answer_with_took commands.Reduce n p r small e = reduced_took n p r e
answer_with_took commands.Decide n p r small e = decided_took n p r small e
answer_with_took commands.Straighten n p r small e = absurd (cc)
answer_with_took commands.Stabiliser n p r small e = stabilised_took n p r small e

-- ---- the text
heading_took : (p : Reading) (r : Command × Reading) → heading_after p ≡ Ok r → Took (λ _. Unit {0}) 1 p r
unfolding heading_after
heading_took p r e =
    one_line (λ (_ : Command). Unit {0}) (codes "whitehead") (λ k. heading_in k.0.number k.0.fields >>= λ command. Ok (command, k.1)) p r (λ k h.
    let a = bind_ok (heading_in k.0.number k.0.fields) (λ command. Ok (command, k.1)) r h in
    (a.0, tt, a.2)) e

rank_took : (command : Command) (p : Reading) (r : ℕ × Reading) → rank_after command p ≡ Ok r → Took (λ n. n ≤ greatest_rank command) 1 p r
unfolding rank_after
rank_took command p r e =
    let next : Kept × Reading → Result (ℕ × Reading) ReadError = λ k. rank_at command k.0.number k.0.fields >>= λ n. Ok (n, k.1) in
    let a = bind_ok (refused_as no_rank (line_after (codes "rank") p)) next r e in
    let line = refused_ok no_rank (line_after (codes "rank") p) a.0 a.1 in
    let b = bind_ok (rank_at command a.0.0.number a.0.0.fields) (λ n. Ok (n, a.0.1)) r a.2 in
    ok_same (Took (λ n. n ≤ greatest_rank command) 1 p) (b.0, a.0.1) r b.2
    (record { told = (rank_is command a.0.0.number b.0 a.0.0.fields b.1).2; lines = line_taken (codes "rank") p a.0 line })

done_taken : (p : Reading) (q : Unit {0} × Reading) → done_after p ≡ Ok q → length q.1.taken ≡ 1 + length p.taken
unfolding done_after
done_taken p q e =
    let a = bind_ok (line_after (codes "done") p) (λ k. cond (length k.0.fields == 0) (end_after k.1) (Err (errors.BadLine k.0.number))) q e in
    let b = if_ok (length a.0.0.fields == 0) (errors.BadLine a.0.0.number) (end_after a.0.1) q a.2 in
    omega (arith, line_taken (codes "done") p a.0 a.1, end_taken a.0.1 q b.1)

abbrev certificate_of_read : AnswerRead × Reading → CertificateData
certificate_of_read read = record { answer = read.0.answer; lines = read.1.taken; flow_heads = read.0.heads; tree_heads = read.0.tree_heads }

answer_numbered : (p : Reading) (read : AnswerRead × Reading) → length p.taken ≡ 0 → answer_after p ≡ Ok read → IsNumbered (certificate_of_read read)
unfolding answer_after
answer_numbered p read none e =
    let a = bind_ok (heading_after p) (λ command. refused_as in_answer (rank_after command.0 command.1) >>= λ n. answer_with command.0 n.0 n.1 >>= λ answer. with_end answer.0 answer.1) read e in
    let b = bind_ok (refused_as in_answer (rank_after a.0.0 a.0.1)) (λ n. answer_with a.0.0 n.0 n.1 >>= λ answer. with_end answer.0 answer.1) read a.2 in
    let c = bind_ok (answer_with a.0.0 b.0.0 b.0.1) (λ answer. with_end answer.0 answer.1) read b.2 in
    let d = bind_ok (done_after c.0.1) (λ end. Ok (c.0.0, end.1)) read c.2 in
    let heading = heading_took p a.0 a.1 in
    let rank = rank_took a.0.0 a.0.1 b.0 (refused_ok in_answer (rank_after a.0.0 a.0.1) b.0 b.1) in
    let answer = answer_with_took a.0.0 b.0.0 b.0.1 c.0 rank.told c.1 in
    ok_same (λ (x : AnswerRead × Reading). IsNumbered (certificate_of_read x)) (c.0.0, d.0.1) read d.2 (record {
      answer = answer.answer;
      lines = omega (arith, none, heading.lines, rank.lines, answer.lines, done_taken c.0.1 d.0 d.1);
      heads = answer.heads;
      tree_heads = answer.tree_heads;
    })

pub certificate_numbered : (bytes : List ℕ) (c : CertificateData) → certificate bytes ≡ Ok c → IsNumbered c
unfolding certificate
certificate_numbered bytes c e =
    let a = unless_ok (ltb most_answer_bytes (length bytes)) (errors.InputTooLong most_answer_bytes) (answer_after (start bytes) >>= λ read. Ok (certificate_of_read read)) c e in
    let b = bind_ok (answer_after (start bytes)) (λ read. Ok (certificate_of_read read)) c a.1 in
    ok_same IsNumbered (certificate_of_read b.0) c b.2 (answer_numbered (start bytes) b.0 refl b.1)
