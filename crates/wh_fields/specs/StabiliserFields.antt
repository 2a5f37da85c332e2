-- How lines tell of the stabiliser of a tuple: the tree of its level, its generators and its relators. Vertices are the tuples of the level.
use Rattle.std.specs.Prelude.{ℕ, ◌+◌, ◌-◌, ◌^◌, ◌<◌, ltb, ◌&&◌, cond, List, [], ◌∷◌, ◌++◌, length, drop, map, Option, Some, None, codes, decimal}
use Rattle.std.specs.Option.{option_and_then}
use Rattle.wh_words.specs.Moves.{Move}
use Rattle.wh_lines.specs.Lines.{Field, are}
use Rattle.wh_lines.specs.Numbers.{number}
use Rattle.wh_lines.specs.Rows.{Row}
use Rattle.wh_fields.specs.MoveFields.{kind_in, move_with, kind_text}

-- ---- what is read
-- A number that counts things from 1, and is below 2 ^ 32.
abbrev pub counting : Option ℕ → Option ℕ
counting None = None
counting (Some k) = cond (ltb 0 k && ltb k (2 ^ 32)) (Some k) None

-- The number of a vertex or of a generator that a field tells.
abbrev pub number_in : List ℕ → Option ℕ
number_in bytes = counting (number bytes)

-- What a `tree` line tells: the number of a vertex as it stands there, its parent, and the move that leads from the parent.
pub record TreeEdgeData : Type 0 where
  pub head : ℕ
  pub parent : ℕ
  pub move : Move

-- What the fields after `tree` tell in rank n. Vertices count from 0, and their numbers from 1.
unfoldable pub tree_edge_in : ℕ → List Field → Option TreeEdgeData
tree_edge_in n [] = None
tree_edge_in n (f ∷ []) = None
tree_edge_in n (f ∷ g ∷ []) = None
tree_edge_in n (f ∷ g ∷ h ∷ []) =
    option_and_then (λ v. option_and_then (λ p. option_and_then (λ m. Some (record { head = v; parent = p - 1; move = m })) (move_with n (kind_in n h.bytes))) (number_in g.bytes)) (number_in f.bytes)
tree_edge_in n (f ∷ g ∷ h ∷ i ∷ fs) = None

-- What the fields after `generator` tell in rank n: a vertex, and a move.
unfoldable pub generator_in : ℕ → List Field → Option (ℕ × Move)
generator_in n [] = None
generator_in n (f ∷ []) = None
generator_in n (f ∷ g ∷ []) = option_and_then (λ v. option_and_then (λ m. Some (v - 1, m)) (move_with n (kind_in n g.bytes))) (number_in f.bytes)
generator_in n (f ∷ g ∷ h ∷ fs) = None

-- The numbers that fields tell.
unfoldable pub word_in : List Field → Option (List ℕ)
word_in [] = Some []
word_in (f ∷ fs) = option_and_then (λ k. option_and_then (λ ks. Some (k ∷ ks)) (word_in fs)) (number_in f.bytes)

-- The moves of rank n of the fields before the first `=`. There has to be one.
unfoldable pub moves_before : ℕ → List Field → Option (List Move)
moves_before n [] = None
moves_before n (f ∷ fs) =
    cond (are f.bytes (codes "=")) (Some []) (option_and_then (λ m. option_and_then (λ ms. Some (m ∷ ms)) (moves_before n fs)) (move_with n (kind_in n f.bytes)))

-- What a `relator` line tells: a vertex, the moves of a way round from it, and the numbers of the generators on this way.
pub record RelatorLineData : Type 0 where
  pub at : ℕ
  pub moves : List Move
  pub word : List ℕ

-- The relator of a vertex and moves, one at least, with the numbers of the fields behind these and `=`.
abbrev pub with_word : ℕ → List Move → List Field → Option RelatorLineData
with_word v [] fs = None
with_word v (m ∷ ms) fs = option_and_then (λ ks. Some (record { at = v; moves = m ∷ ms; word = ks })) (word_in (drop (length (m ∷ ms) + 1) fs))

-- What the fields after `relator` tell in rank n.
unfoldable pub relator_in : ℕ → List Field → Option RelatorLineData
relator_in n [] = None
relator_in n (f ∷ fs) = option_and_then (λ v. option_and_then (λ ms. with_word (v - 1) ms fs) (moves_before n fs)) (number_in f.bytes)

-- ---- what is written

-- A vertex as a field. Vertices count from 0, and their numbers from 1.
abbrev pub vertex_text : ℕ → List ℕ
vertex_text v = decimal (v + 1)

-- The number of a vertex is one of a line.
abbrev pub HasNumber : ℕ → Type 0
HasNumber v = v + 1 < 2 ^ 64

-- The row of a vertex and its parent, from which a move leads to it.
abbrev pub tree_row : ℕ → ℕ → Move → Row
tree_row v p m = record { keyword = codes "tree"; fields = vertex_text v ∷ vertex_text p ∷ kind_text m.kind ∷ [] }

-- The row of a generator: a vertex, and a move from it.
abbrev pub generator_row : ℕ → Move → Row
generator_row v m = record { keyword = codes "generator"; fields = vertex_text v ∷ kind_text m.kind ∷ [] }

-- The row of a relator: a vertex, the moves of a way round from it, and behind `=` the numbers of the generators on this way.
abbrev pub relator_row : ℕ → List Move → List ℕ → Row
relator_row v ms word = record { keyword = codes "relator"; fields = vertex_text v ∷ map (λ m. kind_text m.kind) ms ++ codes "=" ∷ map decimal word }
