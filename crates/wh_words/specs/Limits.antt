-- The greatest sizes that the program takes. Each number stands here alone, and is cited by its name.
use Rattle.std.specs.Prelude.{ℕ}

-- The greatest rank: the generators are a to z.
abbrev pub most_rank : ℕ
most_rank = 26

-- How many words a tuple may have.
abbrev pub most_words : ℕ
most_words = 64

-- How many letters the words of a tuple may have together.
abbrev pub most_letters : ℕ
most_letters = 4096

-- ---- levels
-- The greatest rank in which levels are explored.
abbrev pub most_level_rank : ℕ
most_level_rank = 6

-- The greatest length of a tuple whose level is explored.
abbrev pub most_level_length : ℕ
most_level_length = 256

-- How many tuples a level may have.
abbrev pub most_level_tuples : ℕ
most_level_tuples = 131072

-- ---- stabilisers
-- The greatest rank in which stabilisers are made.
abbrev pub most_stabiliser_rank : ℕ
most_stabiliser_rank = 4

-- How many edges the level of a stabiliser may have: level moves of all its tuples together.
abbrev pub most_level_edges : ℕ
most_level_edges = 65536

-- How many relators the level of a stabiliser may have.
abbrev pub most_relators : ℕ
most_relators = 393216
