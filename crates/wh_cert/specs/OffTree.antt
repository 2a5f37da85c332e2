-- Edges off the tree of a certificate, one vertex after another.
use Rattle.std.specs.Prelude.{◌≡◌, ◌⊎◌, ◌↔◌, ℕ, ◌<◌, List, [], length, Contains}
use Rattle.std.specs.List.Sorted.{IsStrictlySortedBy}
use Rattle.wh_words.specs.Moves.{Move}
use Rattle.wh_stab.specs.Presentations.{Start, start_cmp, IsOffTree, AreGenerators}
use Rattle.wh_data.specs.AnswerData.{PartsData}
use Rattle.wh_cert.specs.Demands.{presented_by}

-- The edge with this start leads from one of the first so many vertices, or from the next by one of these moves.
abbrev pub IsEarly : ℕ → List Move → Start → Type 0
IsEarly v ms s = (s.0 < v) ⊎ ((s.0 ≡ v) × Contains ms s.1)

-- The list has the starts of the edges off the tree that lead from the first so many vertices, and from the next by these moves, in order and each once.
pub record AreFirstOffTree (p : PartsData) (v : ℕ) (ms : List Move) (gs : List Start) : Type 0 where
  pub sorted : IsStrictlySortedBy start_cmp gs
  pub exact : (s : Start) → Contains gs s ↔ (IsOffTree (presented_by p []) s × IsEarly v ms s)

-- More edges than so many are off the tree.
abbrev pub HasMoreOffTree : PartsData → ℕ → Type 0
HasMoreOffTree p most = (gs : List Start) → AreGenerators (presented_by p gs) → most < length gs
