-- How long the text of an answer is at most.
use Rattle.std.proofs.Common.{ℕ, zero, suc, ◌+◌, ◌*◌, ◌^◌, ◌<◌, ◌≤◌, ◌==◌, ◌||◌, List, [], ◌∷◌, ◌++◌, length, get_or, sym, subst, arith, length-append}
use Rattle.std.specs.Prelude.{codes, decimal, map}
use Rattle.std.specs.List.{All, sum_by}
use Rattle.std.proofs.lemmas.Bool.{cond_both}
use Rattle.std.proofs.lemmas.Fmt.{length-decimal-le}
use Rattle.std.proofs.lemmas.List.{length-map}
use Rattle.std.proofs.lemmas.List.Elements.{All-head, All-tail}
use Rattle.std.proofs.lemmas.List.Sums.{sum_by-cons}
use Rattle.wh_words.specs.LetterSets.{in_set}
use Rattle.wh_words.specs.Tuples.{TupleData, tuple_length}
use Rattle.wh_words.specs.Moves.{Move, Kind, IsKind}
use Rattle.wh_words.specs.Moves.Kind.{swap, invert, cut}
use Rattle.wh_flow.specs.Tables.{cell}
use Rattle.wh_lines.specs.Rows.{fields_text, row_text, rows_text, number_row}
use Rattle.wh_fields.specs.Repeated.{below}
use Rattle.wh_fields.specs.Words.{letter_text, word_text}
use Rattle.wh_fields.specs.MoveFields.{set_item, set_text, kind_text, moves_row, IsMoveOf}
use Rattle.wh_fields.specs.TupleFields.{words_row}
use Rattle.wh_fields.specs.FlowFields.{pair_item, pair_fields, flow_value, flow_row, flow_rows, IsFlowOf}
use Rattle.wh_fields.proofs.RepeatedTexts.{fields_below}
use Rattle.wh_data.specs.AnswerData.{SideData}
use Rattle.wh_data.specs.AnswerTexts.{side_rows, at_rows, level_rows}
use Rattle.wh_data.specs.AnswerParts.{IsSideOf}

-- ---- rows
-- the text of a row is its keyword, its fields and a byte
pub row_text-length : (keyword : List ℕ) (fs : List (List ℕ)) (k : ℕ) → length (fields_text fs) ≤ k → length (row_text (record { keyword = keyword; fields = fs })) ≤ length keyword + k + 1
row_text-length keyword fs k h = omega (arith, length-append (keyword ++ fields_text fs) (codes "\n"), length-append keyword (fields_text fs), h)

pub one_field : (f : List ℕ) (fs : List (List ℕ)) (k m : ℕ) → length f ≤ k → length (fields_text fs) ≤ m → length (fields_text (f ∷ fs)) ≤ 1 + k + m
one_field f fs k m h l = omega (arith, length-append (32 ∷ f) (fields_text fs), h, l)

-- ---- words
word_text-length : (w : List ℕ) → length (word_text w) ≤ length w + 1
word_text-length [] = omega arith
word_text-length (x ∷ w) = omega (arith, length-map w letter_text)

word_fields_length : (ws : List (List ℕ)) → length (fields_text (map word_text ws)) ≤ sum_by length ws + 2 * length ws
word_fields_length [] = omega arith
word_fields_length (w ∷ ws) = omega (arith, length-append (32 ∷ word_text w) (fields_text (map word_text ws)), word_text-length w, word_fields_length ws, sum_by-cons length w ws)

pub words_row-length : (keyword : List ℕ) (t : TupleData) → length (row_text (words_row keyword t.words)) ≤ length keyword + (tuple_length t + 2 * length t.words) + 1
words_row-length keyword t = row_text-length keyword (map word_text t.words) (tuple_length t + 2 * length t.words) (word_fields_length t.words)

-- ---- numbers
pub number_row-length : (keyword : List ℕ) (k n : ℕ) → 0 < k → n < 10 ^ k → n < 2 ^ 64 → length (row_text (number_row keyword n)) ≤ length keyword + (k + 1) + 1
number_row-length keyword k n some small fits =
    row_text-length keyword (decimal n ∷ []) (k + 1) (omega (arith, one_field (decimal n) [] k 0 (length-decimal-le k n some small fits) (omega arith)))

-- ---- moves
pub set_length : (set k : ℕ) → length (below (set_item set) k) ≤ k
unfolding below
set_length set zero = omega arith
set_length set (suc k) =
    omega (
      arith,
      length-append (below (set_item set) k) (set_item set k),
      set_length set k,
      cond_both (in_set set k) (letter_text k ∷ []) [] (λ v. length v ≤ 1) (λ _. omega arith) (λ _. omega arith),
    )

kind_text-length : (n : ℕ) (k : Kind) → n ≤ 26 → IsKind n k → length (kind_text k) ≤ 54
kind_text-length n (swap k) low is = omega (arith, length-append (codes "s") (decimal k), length-decimal-le 2 k (omega arith) (omega (arith, is.1, low)) (omega (arith, is.1, low)))
kind_text-length n (invert k) low is = omega (arith, length-append (codes "i") (decimal k), length-decimal-le 2 k (omega arith) (omega (arith, is.1, low)) (omega (arith, is.1, low)))
kind_text-length n (cut a set) low is = omega (arith, length-append (codes ":") (set_text set), set_length set 52)

move_fields_length : (n : ℕ) (ms : List Move) → All (IsMoveOf n) ms → length (fields_text (map (λ m. kind_text m.kind) ms)) ≤ 60 * length ms
move_fields_length n [] are = omega arith
move_fields_length n (m ∷ ms) are =
    let is = All-head (IsMoveOf n) m ms are in
    omega (
      arith,
      length-append (32 ∷ kind_text m.kind) (fields_text (map (λ m. kind_text m.kind) ms)),
      kind_text-length m.rank m.kind is.0.rank is.0.kind,
      move_fields_length n ms (All-tail (IsMoveOf n) m ms are),
    )

pub moves_row-length : (keyword : List ℕ) (n : ℕ) (ms : List Move) → All (IsMoveOf n) ms → length (row_text (moves_row keyword ms)) ≤ length keyword + 60 * length ms + 1
moves_row-length keyword n ms are = row_text-length keyword (map (λ m. kind_text m.kind) ms) (60 * length ms) (move_fields_length n ms are)

-- ---- flows
pair_length : (f : List ℕ) (x y : ℕ) → cell f x y < 2 ^ 32 → length (fields_text (pair_item f x y)) ≤ 14
pair_length f x y small =
    let w = letter_text x ∷ letter_text y ∷ codes ":" ++ decimal (cell f x y) in
    cond_both ((x == y) || (cell f x y == 0)) [] (w ∷ []) (λ fs. length (fields_text fs) ≤ 14)
    (λ _. omega arith)
    (λ _. omega (arith, one_field w [] 13 0 (omega (arith, length-append (codes ":") (decimal (cell f x y)), length-decimal-le 10 (cell f x y) (omega arith) (omega (arith, small)) (omega (arith, small)))) (omega arith)))

none_length : (c : ℕ) (item : ℕ → List (List ℕ)) → length (fields_text (below item zero)) ≤ 0 * c
unfolding below
none_length c item = omega arith

-- So many items of at most c bytes each.
items_length : (c k : ℕ) (item : ℕ → List (List ℕ)) → ((i : ℕ) → i < k → length (fields_text (item i)) ≤ c) → length (fields_text (below item k)) ≤ k * c
items_length c zero item h = none_length c item
items_length c (suc k) item h =
    let e = fields_below item k in
    let both : length (fields_text (below item (suc k))) ≤ length (fields_text (below item k)) + length (fields_text (item k)) =
    subst (λ (v : List ℕ). length v ≤ length (fields_text (below item k)) + length (fields_text (item k))) (sym e) (omega (arith, length-append (fields_text (below item k)) (fields_text (item k)))) in
    omega (arith, both, items_length c k item (λ i l. h i (omega (arith, l))), h k (omega arith))

pairs_length : (n : ℕ) (f : List ℕ) → n ≤ 26 → ((x y : ℕ) → x < 52 → y < 52 → cell f x y < 2 ^ 32) → length (fields_text (pair_fields n f)) ≤ 37856
pairs_length n f low small =
    omega (
      arith,
      items_length 728 (2 * n) (λ x. below (pair_item f x) (2 * n))
          (λ x l. omega (arith, low, items_length 14 (2 * n) (pair_item f x) (λ y m. pair_length f x y (small x y (omega (arith, l, low)) (omega (arith, m, low)))))),
      low,
    )

flow_row-length : (n g : ℕ) (f : List ℕ) → n ≤ 26 → IsFlowOf n g f → length (row_text (flow_row n (2 * g) f)) ≤ 37880
flow_row-length n g f low is =
    let small : flow_value f (2 * g) < 2 ^ 32 = omega (arith, is.value.least, is.value.below) in
    let value : length (decimal (flow_value f (2 * g))) ≤ 10 = length-decimal-le 10 (flow_value f (2 * g)) (omega arith) (omega (arith, small)) (omega (arith, small)) in
    let later : length (fields_text (decimal (flow_value f (2 * g)) ∷ pair_fields n f)) ≤ 1 + 10 + 37856 = one_field (decimal (flow_value f (2 * g))) (pair_fields n f) 10 37856 value (pairs_length n f low is.small) in
    let fields : length (fields_text ((letter_text (2 * g) ∷ []) ∷ decimal (flow_value f (2 * g)) ∷ pair_fields n f)) ≤ 1 + 1 + (1 + 10 + 37856) =
    one_field (letter_text (2 * g) ∷ []) (decimal (flow_value f (2 * g)) ∷ pair_fields n f) 1 (1 + 10 + 37856) (omega arith) later in
    omega (arith, row_text-length (codes "flow") ((letter_text (2 * g) ∷ []) ∷ decimal (flow_value f (2 * g)) ∷ pair_fields n f) (1 + 1 + (1 + 10 + 37856)) fields)

flow_rows-length : (n g : ℕ) (fs : List (List ℕ)) → n ≤ 26 → ((j : ℕ) → j < length fs → IsFlowOf n (g + j) (get_or fs j [])) → length (rows_text (flow_rows n g fs)) ≤ length fs * 37880
flow_rows-length n g [] low are = omega arith
flow_rows-length n g (f ∷ fs) low are =
    let first : IsFlowOf n g f = subst (λ (k : ℕ). IsFlowOf n k f) (omega arith) (are 0 (omega arith)) in
    omega (
      arith,
      length-append (row_text (flow_row n (2 * g) f)) (rows_text (flow_rows n (g + 1) fs)),
      flow_row-length n g f low first,
      flow_rows-length n (g + 1) fs low (λ j l. subst (λ (k : ℕ). IsFlowOf n k (get_or fs j [])) (omega arith) (are (suc j) (omega (arith, l)))),
    )

-- ---- sides
pub side_rows-length : (n count : ℕ) (s : SideData) → n ≤ 26 → IsSideOf n count s → length s.trace ≤ 4096 → length (rows_text (side_rows s)) ≤ 1250000
side_rows-length n count s low is few =
    let each : (j : ℕ) → j < length s.flows → IsFlowOf n (0 + j) (get_or s.flows j []) = λ j l. subst (λ (k : ℕ). IsFlowOf n k (get_or s.flows j [])) (omega arith) (is.each j (omega (arith, l, is.flows))) in
    let flows : length (rows_text (flow_rows s.end.rank 0 s.flows)) ≤ length s.flows * 37880 =
    subst (λ (k : ℕ). length (rows_text (flow_rows k 0 s.flows)) ≤ length s.flows * 37880) (sym is.end.rank) (flow_rows-length n 0 s.flows low each) in
    omega (
      arith,
      length-append (row_text (moves_row (codes "trace") s.trace)) (row_text (words_row (codes "end") s.end.words) ++ rows_text (flow_rows s.end.rank 0 s.flows)),
      length-append (row_text (words_row (codes "end") s.end.words)) (rows_text (flow_rows s.end.rank 0 s.flows)),
      moves_row-length (codes "trace") n s.trace is.trace,
      words_row-length (codes "end") s.end,
      is.end.tuple.short,
      is.end.tuple.few,
      flows,
      is.flows,
      few,
      low,
    )

-- ---- levels
-- The tuples of a level have at most 256 letters each.
abbrev pub IsShort : TupleData → Type 0
IsShort t = (tuple_length t ≤ 256) × (length t.words ≤ 64)

at_rows-length : (ts : List TupleData) → All IsShort ts → length (rows_text (at_rows ts)) ≤ 387 * length ts
at_rows-length [] are = omega arith
at_rows-length (t ∷ ts) are =
    let is = All-head IsShort t ts are in
    omega (
      arith,
      length-append (row_text (words_row (codes "at") t.words)) (rows_text (at_rows ts)),
      words_row-length (codes "at") t,
      is.0,
      is.1,
      at_rows-length ts (All-tail IsShort t ts are),
    )

pub level_rows-length : (ts : List TupleData) → All IsShort ts → length ts ≤ 131072 → length (rows_text (level_rows ts)) ≤ 13 + 387 * length ts
level_rows-length ts are few =
    omega (
      arith,
      length-append (row_text (number_row (codes "level") (length ts))) (rows_text (at_rows ts)),
      number_row-length (codes "level") 6 (length ts) (omega arith) (omega (arith, few)) (omega (arith, few)),
      at_rows-length ts are,
    )
