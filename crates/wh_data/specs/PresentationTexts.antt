-- The rows of what presents a stabiliser, behind those of its level: the tree, the generators and the relators.
use Rattle.std.specs.Prelude.{ℕ, ◌+◌, List, [], ◌∷◌, ◌++◌, map, length, Option, Some, None, IfSome, codes}
use Rattle.std.specs.List.{All}
use Rattle.wh_words.specs.Moves.{Move}
use Rattle.wh_lines.specs.Rows.{Row, number_row}
use Rattle.wh_fields.specs.StabiliserFields.{HasNumber, tree_row, generator_row, relator_row}
use Rattle.wh_data.specs.declared.answer.Loop.{Loop}
use Rattle.wh_data.specs.AnswerData.{PartsData}

-- The row of vertex v, where it has a parent.
abbrev pub entry_rows : ℕ → Option (ℕ × Move) → List Row
entry_rows v None = []
entry_rows v (Some e) = tree_row v e.0 e.1 ∷ []

-- The rows of a tree, whose first vertex is v.
abbrev pub tree_rows : ℕ → List (Option (ℕ × Move)) → List Row
tree_rows v [] = []
tree_rows v (e ∷ es) = entry_rows v e ++ tree_rows (v + 1) es

-- How many generators there are, and each of them.
abbrev pub generator_rows : List (ℕ × Move) → List Row
generator_rows gs = number_row (codes "generators") (length gs) ∷ map (λ g. generator_row g.0 g.1) gs

-- How many relators there are, and each of them.
abbrev pub relator_rows : List Loop → List Row
relator_rows rs = number_row (codes "relators") (length rs) ∷ map (λ r. relator_row r.at r.moves r.word) rs

-- The rows of the tree, the generators and the relators.
abbrev pub presentation_rows : PartsData → List Row
presentation_rows p = (tree_rows 0 p.tree ++ generator_rows p.generators) ++ relator_rows p.relators

-- The numbers of all vertices that are named are numbers of lines.
pub record HaveNumbers (p : PartsData) : Type 0 where
  pub parents : All (λ e. IfSome e (λ s. HasNumber s.0)) p.tree
  pub generators : All (λ g. HasNumber g.0) p.generators
  pub relators : All (λ r. HasNumber r.at) p.relators
