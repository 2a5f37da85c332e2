-- Which answers are certificates: their parts are of one rank, and none is too large.
use Rattle.std.specs.Prelude.{◌≡◌, ◌≢◌, ◌↔◌, ℕ, ◌+◌, ◌<◌, ◌≤◌, List, [], ◌∷◌, ◌++◌, length, get_or, Option, Some, None, IfSome, slice_get}
use Rattle.std.specs.List.{All}
use Rattle.wh_words.specs.Limits.{most_rank, most_level_rank, most_level_tuples, most_level_edges, most_relators, most_stabiliser_rank}
use Rattle.wh_words.specs.Tuples.{TupleData, IsTuple}
use Rattle.wh_words.specs.Moves.{Move}
use Rattle.wh_fields.specs.FlowFields.{IsFlowOf, heads_from}
use Rattle.wh_fields.specs.MoveFields.{IsMoveOf}
use Rattle.wh_fields.specs.TupleFields.{IsTupleOf}
use Rattle.wh_fields.specs.Laws.{IsCounting}
use Rattle.wh_data.specs.declared.answer.Loop.{Loop}
use Rattle.wh_data.specs.RootPlaces.{root_place}
use Rattle.wh_data.specs.AnswerData.{SideData, VerdictData, PartsData, StabVerdictData, AnswerData}
use Rattle.wh_data.specs.AnswerData.VerdictData.{yes, no_length, no_level, undecided}
use Rattle.wh_data.specs.AnswerData.StabVerdictData.{done, stopped}
use Rattle.wh_data.specs.AnswerData.AnswerData.{reduce, decide, straighten, stabiliser}

-- A side in rank n, whose end has so many words.
pub record IsSideOf (n count : ℕ) (s : SideData) : Type 0 where
  pub trace : All (IsMoveOf n) s.trace
  pub end : IsTupleOf n count s.end
  pub flows : length s.flows ≡ n
  pub each : (g : ℕ) → g < n → IsFlowOf n g (get_or s.flows g [])

-- A verdict in rank n, on tuples with so many words. It isn't undecided.
abbrev pub IsVerdictOf : ℕ → ℕ → VerdictData → Type 0
IsVerdictOf n count (yes ms) = All (IsMoveOf n) ms
IsVerdictOf n count (no_length a b) = IsSideOf n count a × IsSideOf n count b
IsVerdictOf n count (no_level a b ts) = IsSideOf n count a × IsSideOf n count b × All (IsTupleOf n count) ts × (1 ≤ length ts) × (length ts ≤ most_level_tuples)
IsVerdictOf n count (undecided bound) = ⊥

-- A vertex with a number that can be read, and a move of rank n.
abbrev pub IsStartOf : ℕ → ℕ × Move → Type 0
IsStartOf n s = IsCounting (s.0 + 1) × IsMoveOf n s.1

-- A relator in rank n: a vertex and numbers that can be read, and one move or more.
pub record IsLoopOf (n : ℕ) (r : Loop) : Type 0 where
  pub vertex : IsCounting (r.at + 1)
  pub moves : All (IsMoveOf n) r.moves
  pub some : r.moves ≢ []
  pub numbers : All IsCounting r.word

-- What presents a stabiliser in rank n, by vertices with so many words: neither no vertices nor too many, generators and relators, and for each vertex an entry in the tree, which is empty for the end alone.
pub record ArePartsOf (n count : ℕ) (end : TupleData) (p : PartsData) : Type 0 where
  pub vertices : All (IsTupleOf n count) p.vertices
  pub some : 1 ≤ length p.vertices
  pub few : length p.vertices ≤ most_level_tuples
  pub entries : length p.tree ≡ length p.vertices
  pub root : (v : ℕ) → (slice_get p.tree v ≡ Some None) ↔ (v ≡ root_place end p.vertices)
  pub parents : All (λ e. IfSome e (IsStartOf n)) p.tree
  pub generators : All (IsStartOf n) p.generators
  pub few_generators : length p.generators ≤ most_level_edges
  pub relators : All (IsLoopOf n) p.relators
  pub few_relators : length p.relators ≤ most_relators

-- What is found of a stabiliser in rank n, where tuples have so many words. It isn't undecided.
abbrev pub IsStabOf : ℕ → ℕ → StabVerdictData → Type 0
IsStabOf n count (done s p) = IsSideOf n count s × ArePartsOf n count s.end p
IsStabOf n count (stopped bound) = ⊥

-- An answer of a command that can be checked, which isn't undecided, of a rank that its command allows.
abbrev pub IsCertificate : AnswerData → Type 0
IsCertificate (reduce t s) = IsTuple t × (1 ≤ t.rank) × (t.rank ≤ most_rank) × IsSideOf t.rank (length t.words) s
IsCertificate (decide s t v) = IsTuple s × (1 ≤ s.rank) × (s.rank ≤ most_level_rank) × IsTupleOf s.rank (length s.words) t × IsVerdictOf s.rank (length s.words) v
IsCertificate (straighten t given ms end) = ⊥
IsCertificate (stabiliser t v) = IsTuple t × (1 ≤ t.rank) × (t.rank ≤ most_stabiliser_rank) × IsStabOf t.rank (length t.words) v

abbrev pub verdict_heads : VerdictData → List (ℕ × ℕ)
verdict_heads (yes ms) = []
verdict_heads (no_length a b) = heads_from 0 a.flows ++ heads_from 0 b.flows
verdict_heads (no_level a b ts) = heads_from 0 a.flows ++ heads_from 0 b.flows
verdict_heads (undecided bound) = []

abbrev pub stab_heads : StabVerdictData → List (ℕ × ℕ)
stab_heads (done s p) = heads_from 0 s.flows
stab_heads (stopped bound) = []

-- The letters and values that the `flow` lines of an answer name.
abbrev pub heads_of : AnswerData → List (ℕ × ℕ)
heads_of (reduce t s) = heads_from 0 s.flows
heads_of (decide s t v) = verdict_heads v
heads_of (straighten t given ms end) = []
heads_of (stabiliser t v) = stab_heads v

-- The numbers of the vertices from v on that have a parent.
abbrev pub tree_heads_from : ℕ → List (Option (ℕ × Move)) → List ℕ
tree_heads_from v [] = []
tree_heads_from v (None ∷ es) = tree_heads_from (v + 1) es
tree_heads_from v (Some e ∷ es) = (v + 1) ∷ tree_heads_from (v + 1) es

-- The numbers of the vertices that the `tree` lines of an answer name.
abbrev pub tree_heads_of : AnswerData → List ℕ
tree_heads_of (reduce t s) = []
tree_heads_of (decide s t v) = []
tree_heads_of (straighten t given ms end) = []
tree_heads_of (stabiliser t (done s p)) = tree_heads_from 0 p.tree
tree_heads_of (stabiliser t (stopped bound)) = []
