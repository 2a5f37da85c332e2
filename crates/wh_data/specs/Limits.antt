-- The greatest sizes of texts. Each number stands here alone, and is cited by its name.
use Rattle.std.specs.Prelude.{ℕ}

-- How many bytes the text of a problem may have.
abbrev pub most_problem_bytes : ℕ
most_problem_bytes = 1048576

-- How many moves a `moves` line of a problem may have.
abbrev pub most_given_moves : ℕ
most_given_moves = 1024

-- How many bytes the text of an answer may have, where it is read.
abbrev pub most_answer_bytes : ℕ
most_answer_bytes = 67108864
