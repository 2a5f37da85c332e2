-- How a tuple keeps its words: all letters in one run, and the places where words end in another.
use Rattle.std.specs.Prelude.{◌≡◌, ℕ, zero, suc, get_or, ◌<◌, ◌≤◌, List, [], ◌∷◌, length, map, take, slice_range}
use Rattle.std.specs.List.{sum_by}
use Rattle.wh_words.specs.CyclicWords.{cyclic_word}
use Rattle.wh_words.specs.Action.{substitute}
use Rattle.wh_words.specs.Moves.Kind.{cut}
use Rattle.wh_words.specs.Tuples.{Tuple, IsRoomed}

-- The words of a run of letters, from a place on, by where they end.
abbrev pub split_at : ℕ → List ℕ → List ℕ → List (List ℕ)
split_at start [] letters = []
split_at start (end ∷ ends) letters = slice_range letters start end ∷ split_at end ends letters

-- The ends rise from a place to n.
abbrev pub EndsRise : ℕ → List ℕ → ℕ → Type 0
EndsRise start [] n = start ≡ n
EndsRise start (end ∷ ends) n = (start ≤ end) × EndsRise end ends n

-- Where word number k begins, counted from 0.
abbrev pub start_at : ℕ → List ℕ → ℕ → ℕ
start_at start ends zero = start
start_at start ends (suc k) = get_or ends k 0

-- The tuple that is kept so.
abbrev pub tuple_of : ℕ → List ℕ → List ℕ → ℕ → ℕ → Tuple
tuple_of rank ends letters room word_room = record { plain = record { rank = rank; words = split_at 0 ends letters }; room = room; word_room = word_room }

-- A tuple is kept so, and both runs have the capacities that its rooms ask for.
pub record IsStored (rank : ℕ) (ends letters : List ℕ) (room word_room most most_words : ℕ) : Type 0 where
  pub roomed : IsRoomed (tuple_of rank ends letters room word_room)
  pub laid : EndsRise 0 ends (length letters)
  pub held : room ≤ most
  pub held_words : word_room ≤ most_words

-- The first k words of a run of letters have their images under a cut at the front of another run, up to a place, with their ends in another.
pub record AreWritten (mult set : ℕ) (ends letters : List ℕ) (k at : ℕ) (marks out : List ℕ) : Type 0 where
  pub within : at < length out
  pub words : split_at 0 (take k marks) (take at out) ≡ map (λ w. cyclic_word (substitute (cut mult set) w)) (take k (split_at 0 ends letters))
  pub laid : EndsRise 0 (take k marks) at
  pub total : at ≡ sum_by length (map (λ w. cyclic_word (substitute (cut mult set) w)) (take k (split_at 0 ends letters)))
