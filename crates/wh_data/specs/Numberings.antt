-- What is known of a certificate that was read: its parts fit together, and its lines are numbered.
use Rattle.std.specs.Prelude.{◌≡◌, ℕ, ◌+◌, ◌*◌, ◌≤◌, ◌↔◌, length, is_some, IfSome, Some, None, slice_get}
use Rattle.std.specs.List.{All, count_by}
use Rattle.wh_data.specs.RootPlaces.{root_place}
use Rattle.wh_data.specs.AnswerTexts.{head_rows}
use Rattle.wh_data.specs.AnswerData.{SideData, VerdictData, PartsData, StabVerdictData, AnswerData, CertificateData}
use Rattle.wh_data.specs.AnswerData.VerdictData.{yes, no_length, no_level, undecided}
use Rattle.wh_data.specs.AnswerData.StabVerdictData.{done, stopped}
use Rattle.wh_data.specs.AnswerData.AnswerData.{reduce, decide, straighten, stabiliser}
use Rattle.wh_words.specs.Limits.{most_level_rank, most_level_tuples, most_level_edges, most_relators, most_stabiliser_rank}
use Rattle.wh_words.specs.Tuples.{TupleData}

-- ---- ranks
-- The end, the moves and the flows of a side are of rank n.
pub record IsSideOfRank (n : ℕ) (s : SideData) : Type 0 where
  pub end : s.end.rank ≡ n
  pub moves : All (λ m. m.rank ≡ n) s.trace
  pub flows : length s.flows ≡ n

-- A level comes with low ranks alone.
abbrev pub IsVerdictOfRank : ℕ → VerdictData → Type 0
IsVerdictOfRank n (yes ms) = All (λ m. m.rank ≡ n) ms
IsVerdictOfRank n (no_length a b) = IsSideOfRank n a × IsSideOfRank n b
IsVerdictOfRank n (no_level a b ts) = IsSideOfRank n a × IsSideOfRank n b × All (λ t. t.rank ≡ n) ts × (n ≤ most_level_rank)
IsVerdictOfRank n (undecided bound) = ⊥

-- The vertices and the moves of what presents a stabiliser are of rank n, which is low enough; there are neither no vertices nor too many, generators and relators; and each vertex has an entry in the tree, which is empty for the end alone.
pub record ArePartsOfRank (n : ℕ) (end : TupleData) (p : PartsData) : Type 0 where
  pub low : n ≤ most_stabiliser_rank
  pub vertices : All (λ t. t.rank ≡ n) p.vertices
  pub some : 1 ≤ length p.vertices
  pub few : length p.vertices ≤ most_level_tuples
  pub count : length p.tree ≡ length p.vertices
  pub root : (v : ℕ) → (slice_get p.tree v ≡ Some None) ↔ (v ≡ root_place end p.vertices)
  pub parents : All (λ e. IfSome e (λ s. s.1.rank ≡ n)) p.tree
  pub generators : All (λ g. g.1.rank ≡ n) p.generators
  pub few_generators : length p.generators ≤ most_level_edges
  pub relators : All (λ r. All (λ m. m.rank ≡ n) r.moves) p.relators
  pub few_relators : length p.relators ≤ most_relators

abbrev pub IsStabOfRank : ℕ → StabVerdictData → Type 0
IsStabOfRank n (done s p) = IsSideOfRank n s × ArePartsOfRank n s.end p
IsStabOfRank n (stopped bound) = ⊥

-- All parts of an answer are of one rank, it isn't undecided, and its command can be checked.
abbrev pub IsAnswerOfOneRank : AnswerData → Type 0
IsAnswerOfOneRank (reduce t s) = IsSideOfRank t.rank s
IsAnswerOfOneRank (decide s t v) = (t.rank ≡ s.rank) × IsVerdictOfRank s.rank v
IsAnswerOfOneRank (straighten t given ms end) = ⊥
IsAnswerOfOneRank (stabiliser t v) = IsStabOfRank t.rank v

-- ---- lines
-- How many lines a side of rank n has.
abbrev pub side_lines : ℕ → ℕ
side_lines n = n + 2

-- How many lines of a text aren't skipped after the verdict, without the last.
abbrev pub verdict_lines : ℕ → VerdictData → ℕ
verdict_lines n (yes ms) = 1
verdict_lines n (no_length a b) = 2 * side_lines n
verdict_lines n (no_level a b ts) = 2 * side_lines n + 1 + length ts
verdict_lines n (undecided bound) = 0

-- How many `tree` lines there are: one for each vertex with a parent.
abbrev pub tree_lines : PartsData → ℕ
tree_lines p = count_by is_some p.tree

-- How many lines tell a level and what presents a stabiliser: those that count, and one for each tuple, each vertex with a parent, each generator and each relator.
abbrev pub parts_lines : PartsData → ℕ
parts_lines p = length p.vertices + tree_lines p + length p.generators + length p.relators + 3

abbrev pub stab_lines : ℕ → StabVerdictData → ℕ
stab_lines n (done s p) = side_lines n + parts_lines p
stab_lines n (stopped bound) = 1

-- How many lines stand before the sides.
abbrev pub head_lines : AnswerData → ℕ
head_lines a = length (head_rows a)

-- How many lines of the text of an answer aren't skipped.
abbrev pub answer_lines : AnswerData → ℕ
answer_lines (reduce t s) = head_lines (reduce t s) + side_lines t.rank + 1
answer_lines (decide s t v) = head_lines (decide s t v) + verdict_lines s.rank v + 1
answer_lines (straighten t given ms end) = head_lines (straighten t given ms end) + 3 + 1
answer_lines (stabiliser t v) = head_lines (stabiliser t v) + stab_lines t.rank v + 1

-- How many `flow` lines a verdict has.
abbrev pub verdict_flows : ℕ → VerdictData → ℕ
verdict_flows n (yes ms) = 0
verdict_flows n (no_length a b) = 2 * n
verdict_flows n (no_level a b ts) = 2 * n
verdict_flows n (undecided bound) = 0

abbrev pub stab_flows : ℕ → StabVerdictData → ℕ
stab_flows n (done s p) = n
stab_flows n (stopped bound) = 0

-- How many `flow` lines the text of an answer has.
abbrev pub flow_lines : AnswerData → ℕ
flow_lines (reduce t s) = t.rank
flow_lines (decide s t v) = verdict_flows s.rank v
flow_lines (straighten t given ms end) = 0
flow_lines (stabiliser t v) = stab_flows t.rank v

-- How many `tree` lines the text of an answer has.
abbrev pub answer_tree_lines : AnswerData → ℕ
answer_tree_lines (reduce t s) = 0
answer_tree_lines (decide s t v) = 0
answer_tree_lines (straighten t given ms end) = 0
answer_tree_lines (stabiliser t (done s p)) = tree_lines p
answer_tree_lines (stabiliser t (stopped bound)) = 0

-- The parts of a certificate are of one rank, and it has a number for each line, a letter and a value for each `flow` line, and the number of a vertex for each `tree` line.
pub record IsNumbered (c : CertificateData) : Type 0 where
  pub answer : IsAnswerOfOneRank c.answer
  pub lines : length c.lines ≡ answer_lines c.answer
  pub heads : length c.flow_heads ≡ flow_lines c.answer
  pub tree_heads : length c.tree_heads ≡ answer_tree_lines c.answer
