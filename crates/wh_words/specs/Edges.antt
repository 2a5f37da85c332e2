-- The Whitehead graph of a tuple, by the list of its edges, after Lyndon and Schupp, I.4.
use Rattle.std.specs.Prelude.{ℕ, ◌-◌, ◌==◌, ◌&&◌, ◌||◌, Bool, not, List, [], ◌∷◌, length, get_or, count_by}
use Rattle.std.specs.List.{flat_map}
use Rattle.wh_words.specs.Letters.{inverse_letter}
use Rattle.wh_words.specs.Tuples.{TupleData}

-- One edge between each letter and the inverse of the next, over a word that follows the letter p.
abbrev pub edges_after : ℕ → List ℕ → List (ℕ × ℕ)
edges_after p [] = []
edges_after p (x ∷ w) = (p, inverse_letter x) ∷ edges_after x w

-- The edges of a cyclic word, whose last letter stands before its first.
abbrev pub word_edges : List ℕ → List (ℕ × ℕ)
word_edges w = edges_after (get_or w (length w - 1) 0) w

-- The edges of a tuple, word by word.
abbrev pub edges : TupleData → List (ℕ × ℕ)
edges t = flat_map word_edges t.words

-- Whether an edge has one end in a set and one outside.
abbrev pub crosses : (ℕ → Bool) → ℕ × ℕ → Bool
crosses has e = (has e.0 && not (has e.1)) || (has e.1 && not (has e.0))

-- Whether an edge has an end at a letter.
abbrev pub ends_at : ℕ → ℕ × ℕ → Bool
ends_at a e = (e.0 == a) || (e.1 == a)

-- Whether an edge joins two letters, either way round.
abbrev pub joins : ℕ → ℕ → ℕ × ℕ → Bool
joins x y e = ((e.0 == x) && (e.1 == y)) || ((e.0 == y) && (e.1 == x))

-- The capacity of a set of letters: how many edges leave it.
abbrev pub cap : (ℕ → Bool) → TupleData → ℕ
cap has t = count_by (crosses has) (edges t)

-- The degree of a letter: how many edges are at it.
abbrev pub deg : ℕ → TupleData → ℕ
deg a t = count_by (ends_at a) (edges t)
