-- How many rows an answer has: for the law that counts them.
use Rattle.std.proofs.Common.{None, Some, cond, ◌≡◌, ℕ, ◌+◌, ◌*◌, List, [], ◌∷◌, ◌++◌, length, refl, arith, length-append}
use Rattle.std.specs.Prelude.{Option, is_some}
use Rattle.std.specs.List.{count_by}
use Rattle.std.proofs.lemmas.List.{length-map}
use Rattle.std.proofs.lemmas.List.Sums.{sum_by-cons}
use Rattle.wh_words.specs.Tuples.{TupleData}
use Rattle.wh_words.specs.Moves.{Move}
use Rattle.wh_fields.specs.StabiliserFields.{generator_row, relator_row}
use Rattle.wh_fields.specs.FlowFields.{flow_rows}
use Rattle.wh_data.specs.AnswerData.{SideData, VerdictData, PartsData, StabVerdictData, AnswerData}
use Rattle.wh_data.specs.AnswerData.StabVerdictData.{done, stopped}
use Rattle.wh_data.specs.AnswerData.VerdictData.{yes, no_length, no_level, undecided}
use Rattle.wh_data.specs.AnswerData.AnswerData.{reduce, decide, straighten, stabiliser}
use Rattle.wh_data.specs.PresentationTexts.{tree_rows, generator_rows, relator_rows, presentation_rows}
use Rattle.wh_data.specs.AnswerTexts.{side_rows, at_rows, level_rows, verdict_rows, stab_rows, done_row, head_rows, body_rows}
use Rattle.wh_data.specs.Numberings.{IsSideOfRank, IsVerdictOfRank, IsStabOfRank, side_lines, verdict_lines, stab_lines}
use Rattle.wh_data.specs.Laws.{CountsRows}

flow_count : (n g : ℕ) (fs : List (List ℕ)) → length (flow_rows n g fs) ≡ length fs
flow_count n g [] = refl
flow_count n g (f ∷ fs) = omega (arith, flow_count n (g + 1) fs)

at_count : (ts : List TupleData) → length (at_rows ts) ≡ length ts
at_count [] = refl
at_count (t ∷ ts) = omega (arith, at_count ts)

side_count : (n : ℕ) (s : SideData) → IsSideOfRank n s → length (side_rows s) ≡ side_lines n
side_count n s is = omega (arith, flow_count s.end.rank 0 s.flows, is.flows)

sides_count : (n : ℕ) (a b : SideData) → IsSideOfRank n a → IsSideOfRank n b → length (side_rows a ++ side_rows b) ≡ 2 * side_lines n
sides_count n a b is js = omega (arith, length-append (side_rows a) (side_rows b), side_count n a is, side_count n b js)

verdict_count : (n : ℕ) (v : VerdictData) → IsVerdictOfRank n v → length (verdict_rows v) ≡ verdict_lines n v
verdict_count n (yes ms) is = refl
verdict_count n (no_length a b) is = sides_count n a b is.0 is.1
verdict_count n (no_level a b ts) is = omega (arith, length-append (side_rows a ++ side_rows b) (level_rows ts), sides_count n a b is.0 is.1, at_count ts)
verdict_count n (undecided bound) is = absurd is

-- ---- what presents a stabiliser
tree_count : (v : ℕ) (es : List (Option (ℕ × Move))) → length (tree_rows v es) ≡ count_by is_some es
tree_count v [] = refl
tree_count v (None ∷ es) = tree_count (v + 1) es
tree_count v (Some e ∷ es) =
    let one : count_by is_some (Some e ∷ es) ≡ 1 + count_by is_some es = sum_by-cons (λ e. cond (is_some e) 1 0) (Some e) es in
    omega (arith, one, tree_count (v + 1) es)

presentation_count : (p : PartsData) → length (presentation_rows p) ≡ count_by is_some p.tree + length p.generators + length p.relators + 2
presentation_count p =
    omega (
      arith,
      length-append (tree_rows 0 p.tree ++ generator_rows p.generators) (relator_rows p.relators),
      length-append (tree_rows 0 p.tree) (generator_rows p.generators),
      tree_count 0 p.tree,
      length-map p.generators (λ g. generator_row g.0 g.1),
      length-map p.relators (λ r. relator_row r.at r.moves r.word),
    )

stab_count : (n : ℕ) (v : StabVerdictData) → IsStabOfRank n v → length (stab_rows v) ≡ stab_lines n v
stab_count n (done s p) is =
    omega (
      arith,
      length-append (side_rows s ++ level_rows p.vertices) (presentation_rows p),
      length-append (side_rows s) (level_rows p.vertices),
      side_count n s is.0,
      at_count p.vertices,
      presentation_count p,
    )
stab_count n (stopped bound) is = absurd is

-- ---- answers
whole_count : (a : AnswerData) (k : ℕ) → length (body_rows a) ≡ k → length ((head_rows a ++ body_rows a) ++ done_row ∷ []) ≡ length (head_rows a) + k + 1
whole_count a k e = omega (arith, length-append (head_rows a ++ body_rows a) (done_row ∷ []), length-append (head_rows a) (body_rows a), e)

pub counts_rows : CountsRows
counts_rows (reduce t s) is = whole_count (reduce t s) (side_lines t.rank) (side_count t.rank s is)
counts_rows (decide s t v) is = whole_count (decide s t v) (verdict_lines s.rank v) (verdict_count s.rank v is.1)
counts_rows (straighten t given ms end) is = absurd is
counts_rows (stabiliser t v) is = whole_count (stabiliser t v) (stab_lines t.rank v) (stab_count t.rank v is)
