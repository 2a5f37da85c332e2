-- How long the text of what presents a stabiliser is at most.
use Rattle.std.proofs.Common.{ℕ, zero, suc, ◌+◌, ◌*◌, ◌^◌, ◌<◌, ◌≤◌, Bool, List, [], ◌∷◌, ◌++◌, length, map, Option, None, Some, ap, arith, inl, inr, length-append}
use Rattle.std.specs.Prelude.{codes, decimal, cond, IfSome}
use Rattle.std.specs.List.{All}
use Rattle.std.proofs.lemmas.Bool.{cases_lt}
use Rattle.std.proofs.lemmas.Fmt.{length-decimal-le}
use Rattle.std.proofs.lemmas.Grind.{flat_map-append}
use Rattle.std.proofs.lemmas.List.Elements.{All-head, All-tail}
use Rattle.wh_words.specs.Moves.{Move, Kind, IsKind}
use Rattle.wh_words.specs.Moves.Kind.{swap, invert, cut}
use Rattle.wh_relators.specs.Weights.{kind_weight, weight}
use Rattle.wh_relators.proofs.Sets.{past_rank}
use Rattle.wh_lines.specs.Rows.{fields_text, row_text, rows_text, number_row}
use Rattle.wh_lines.proofs.PrintedRows.{rows_append}
use Rattle.wh_fields.specs.Repeated.{below}
use Rattle.wh_fields.specs.Words.{letter_text}
use Rattle.wh_fields.specs.MoveFields.{set_item, set_text, kind_text, IsMoveOf}
use Rattle.wh_fields.specs.StabiliserFields.{vertex_text, tree_row, generator_row, relator_row}
use Rattle.wh_data.specs.declared.answer.Loop.{Loop}
use Rattle.wh_data.specs.AnswerData.{PartsData}
use Rattle.wh_data.specs.PresentationTexts.{entry_rows, tree_rows, generator_rows, relator_rows, presentation_rows}
use Rattle.wh_answer.proofs.TextLengths.{row_text-length, one_field, number_row-length, set_length}
use Rattle.wh_answer.proofs.ReadableParts.{IsPlaced, IsGoodLoop}

-- ---- numbers
number_length : (k : ℕ) → k ≤ 65536 → length (decimal k) ≤ 5
number_length k few = length-decimal-le 5 k (omega arith) (omega (arith, few)) (omega (arith, few))

vertex_length : (v : ℕ) → v < 131072 → length (vertex_text v) ≤ 6
vertex_length v few = length-decimal-le 6 (v + 1) (omega arith) (omega (arith, few)) (omega (arith, few))

abbrev IsSmall : ℕ → Type 0
IsSmall k = (0 < k) × (k ≤ 65536)

numbers_length : (ks : List ℕ) → All IsSmall ks → length (fields_text (map decimal ks)) ≤ 6 * length ks
numbers_length [] are = omega arith
numbers_length (k ∷ ks) are =
    omega (
      arith,
      length-append (32 ∷ decimal k) (fields_text (map decimal ks)),
      number_length k (All-head IsSmall k ks are).1,
      numbers_length ks (All-tail IsSmall k ks are),
    )

-- ---- moves
-- A set of rank 4 at most has eight letters at most.
set_short : (n set k : ℕ) → n ≤ 4 → set < 2 ^ (2 * n) → length (below (set_item set) k) ≤ 8
unfolding below
set_short n set zero low within = omega arith
set_short n set (suc k) low within = elim (cases_lt k 8) [
  | inl l ↦ omega (arith, set_length set (suc k), l)
  | inr h ↦
      omega (
        arith,
        length-append (below (set_item set) k) (set_item set k),
        set_short n set k low within,
        ap (λ (b : Bool). length (cond b (letter_text k ∷ []) [])) (past_rank n set k within (omega (arith, h, low))),
      )
]

-- The field of a move has 7 bytes less than its weight: the rest is for the spaces and the number of a generator.
kind_length : (n : ℕ) (k : Kind) → n ≤ 4 → IsKind n k → length (kind_text k) + 7 ≤ kind_weight k
kind_length n (swap k) low is = omega (arith, length-append (codes "s") (decimal k), length-decimal-le 1 k (omega arith) (omega (arith, is.1, low)) (omega (arith, is.1, low)))
kind_length n (invert k) low is = omega (arith, length-append (codes "i") (decimal k), length-decimal-le 1 k (omega arith) (omega (arith, is.1, low)) (omega (arith, is.1, low)))
kind_length n (cut a set) low is = omega (arith, length-append (codes ":") (set_text set), set_short n set 52 low is.within)

kind_short : (k : Kind) → kind_weight k ≤ 17
kind_short (swap k) = omega arith
kind_short (invert k) = omega arith
kind_short (cut a set) = omega arith

move_length : (n : ℕ) (m : Move) → n ≤ 4 → IsMoveOf n m → length (kind_text m.kind) + 7 ≤ kind_weight m.kind
move_length n m low is = kind_length m.rank m.kind (omega (arith, is.1, low)) is.0.kind

move_short : (n : ℕ) (m : Move) → n ≤ 4 → IsMoveOf n m → length (kind_text m.kind) ≤ 10
move_short n m low is = omega (arith, move_length n m low is, kind_short m.kind)

moves_length : (n : ℕ) (ms : List Move) → n ≤ 4 → All (IsMoveOf n) ms → length (fields_text (map (λ m. kind_text m.kind) ms)) + 6 * length ms ≤ weight ms
unfolding weight
moves_length n [] low are = omega arith
moves_length n (m ∷ ms) low are =
    omega (
      arith,
      length-append (32 ∷ kind_text m.kind) (fields_text (map (λ m. kind_text m.kind) ms)),
      move_length n m low (All-head (IsMoveOf n) m ms are),
      moves_length n ms low (All-tail (IsMoveOf n) m ms are),
    )

-- ---- rows
tree_row-length : (n v : ℕ) (s : ℕ × Move) → n ≤ 4 → v < 131072 → s.0 < 131072 → IsMoveOf n s.1 → length (row_text (tree_row v s.0 s.1)) ≤ 30
tree_row-length n v s low small parent is =
    row_text-length (codes "tree") (vertex_text v ∷ vertex_text s.0 ∷ kind_text s.1.kind ∷ []) 25
    (one_field (vertex_text v) (vertex_text s.0 ∷ kind_text s.1.kind ∷ []) 6 18 (vertex_length v small)
    (one_field (vertex_text s.0) (kind_text s.1.kind ∷ []) 6 11 (vertex_length s.0 parent) (one_field (kind_text s.1.kind) [] 10 0 (move_short n s.1 low is) (omega arith))))

generator_row-length : (n : ℕ) (s : ℕ × Move) → n ≤ 4 → s.0 < 131072 → IsMoveOf n s.1 → length (row_text (generator_row s.0 s.1)) ≤ 28
generator_row-length n s low small is =
    row_text-length (codes "generator") (vertex_text s.0 ∷ kind_text s.1.kind ∷ []) 18 (one_field (vertex_text s.0) (kind_text s.1.kind ∷ []) 6 11 (vertex_length s.0 small) (one_field (kind_text s.1.kind) [] 10 0 (move_short n s.1 low is) (omega arith)))

relator_row-length : (n count : ℕ) (r : Loop) → n ≤ 4 → count ≤ 131072 → IsGoodLoop n count r → length (row_text (relator_row r.at r.moves r.word)) ≤ 122
relator_row-length n count r low few good =
    let moves : List (List ℕ) = map (λ m. kind_text m.kind) r.moves in
    let numbers : List (List ℕ) = codes "=" ∷ map decimal r.word in
    let way : length (fields_text (map (λ m. kind_text m.kind) r.moves ++ codes "=" ∷ map decimal r.word)) ≤ 107 = omega (
      arith,
      ap length (flat_map-append (λ f. 32 ∷ f) moves numbers),
      length-append (fields_text moves) (fields_text numbers),
      length-append (32 ∷ codes "=") (fields_text (map decimal r.word)),
      moves_length n r.moves low good.way.moves,
      numbers_length r.word good.numbers,
      good.few,
      good.way.light,
    ) in
    row_text-length (codes "relator") (vertex_text r.at ∷ moves ++ numbers) 114 (one_field (vertex_text r.at) (moves ++ numbers) 6 107 (vertex_length r.at (omega (arith, good.vertex, few))) way)

-- ---- lists of rows
entry_rows-length : (n v : ℕ) (e : Option (ℕ × Move)) → n ≤ 4 → v < 131072 → IfSome e (IsPlaced n) → length (rows_text (entry_rows v e)) ≤ 30
entry_rows-length n v None low small is = omega arith
entry_rows-length n v (Some s) low small is = omega (arith, tree_row-length n v s low small is.0 is.1, length-append (row_text (tree_row v s.0 s.1)) [])

tree_rows-length : (n v : ℕ) (es : List (Option (ℕ × Move))) → n ≤ 4 → v + length es ≤ 131072 → All (λ e. IfSome e (IsPlaced n)) es → length (rows_text (tree_rows v es)) ≤ 30 * length es
tree_rows-length n v [] low few are = omega arith
tree_rows-length n v (e ∷ es) low few are =
    omega (
      arith,
      ap length (rows_append (entry_rows v e) (tree_rows (v + 1) es)),
      length-append (rows_text (entry_rows v e)) (rows_text (tree_rows (v + 1) es)),
      entry_rows-length n v e low (omega (arith, few)) (All-head (λ e. IfSome e (IsPlaced n)) e es are),
      tree_rows-length n (v + 1) es low (omega (arith, few)) (All-tail (λ e. IfSome e (IsPlaced n)) e es are),
    )

each_generator : (n : ℕ) (gs : List (ℕ × Move)) → n ≤ 4 → All (IsPlaced n) gs → length (rows_text (map (λ g. generator_row g.0 g.1) gs)) ≤ 28 * length gs
each_generator n [] low are = omega arith
each_generator n (g ∷ gs) low are =
    let is : IsPlaced n g = All-head (IsPlaced n) g gs are in
    omega (
      arith,
      length-append (row_text (generator_row g.0 g.1)) (rows_text (map (λ (h : ℕ × Move). generator_row h.0 h.1) gs)),
      generator_row-length n g low is.0 is.1,
      each_generator n gs low (All-tail (IsPlaced n) g gs are),
    )

each_relator : (n count : ℕ) (rs : List Loop) → n ≤ 4 → count ≤ 131072 → All (IsGoodLoop n count) rs → length (rows_text (map (λ r. relator_row r.at r.moves r.word) rs)) ≤ 122 * length rs
each_relator n count [] low few are = omega arith
each_relator n count (r ∷ rs) low few are =
    omega (
      arith,
      length-append (row_text (relator_row r.at r.moves r.word)) (rows_text (map (λ (s : Loop). relator_row s.at s.moves s.word) rs)),
      relator_row-length n count r low few (All-head (IsGoodLoop n count) r rs are),
      each_relator n count rs low few (All-tail (IsGoodLoop n count) r rs are),
    )

generator_rows-length : (n : ℕ) (gs : List (ℕ × Move)) → n ≤ 4 → length gs ≤ 65536 → All (IsPlaced n) gs → length (rows_text (generator_rows gs)) ≤ 17 + 28 * length gs
generator_rows-length n gs low few are =
    omega (
      arith,
      length-append (row_text (number_row (codes "generators") (length gs))) (rows_text (map (λ (g : ℕ × Move). generator_row g.0 g.1) gs)),
      number_row-length (codes "generators") 5 (length gs) (omega arith) (omega (arith, few)) (omega (arith, few)),
      each_generator n gs low are,
    )

relator_rows-length : (n count : ℕ) (rs : List Loop) → n ≤ 4 → count ≤ 131072 → length rs ≤ 393216 → All (IsGoodLoop n count) rs → length (rows_text (relator_rows rs)) ≤ 16 + 122 * length rs
relator_rows-length n count rs low small few are =
    omega (
      arith,
      length-append (row_text (number_row (codes "relators") (length rs))) (rows_text (map (λ (r : Loop). relator_row r.at r.moves r.word) rs)),
      number_row-length (codes "relators") 6 (length rs) (omega arith) (omega (arith, few)) (omega (arith, few)),
      each_relator n count rs low small are,
    )

-- The tree, the generators and the relators of a level with few tuples.
pub presentation_rows-length : (n count : ℕ) (p : PartsData) → n ≤ 4 → count ≤ 131072 → length p.tree ≤ 32768 → All (λ e. IfSome e (IsPlaced n)) p.tree → length p.generators ≤ 65536 → All (IsPlaced n) p.generators → length p.relators ≤ 393216 →
    All (IsGoodLoop n count) p.relators → length (rows_text (presentation_rows p)) ≤ 50800000
presentation_rows-length n count p low small few_tuples tree few_generators generators few_relators relators =
    omega (
      arith,
      ap length (rows_append (tree_rows 0 p.tree ++ generator_rows p.generators) (relator_rows p.relators)),
      length-append (rows_text (tree_rows 0 p.tree ++ generator_rows p.generators)) (rows_text (relator_rows p.relators)),
      ap length (rows_append (tree_rows 0 p.tree) (generator_rows p.generators)),
      length-append (rows_text (tree_rows 0 p.tree)) (rows_text (generator_rows p.generators)),
      tree_rows-length n 0 p.tree low (omega (arith, few_tuples)) tree,
      generator_rows-length n p.generators low few_generators generators,
      relator_rows-length n count p.relators low small few_relators relators,
      few_tuples,
      few_generators,
      few_relators,
    )
