-- The text of a problem, and the first refusal of a text that isn't one.
use Rattle.std.specs.Prelude.{ℕ, ◌==◌, ltb, ◌&&◌, Bool, true, false, cond, List, [], ◌∷◌, length, Result, Ok, Err, codes}
use Rattle.wh_data.specs.Limits.{most_problem_bytes, most_given_moves}
use Rattle.wh_words.specs.Tuples.{TupleData}
use Rattle.wh_words.specs.Moves.{Move}
use Rattle.wh_lines.specs.declared.read_error.ReadError.{ReadError}
use Rattle.wh_lines.specs.declared.read_error.ReadError.TheVariants as errors
use Rattle.wh_lines.specs.Lines.{are}
use Rattle.wh_lines.specs.Readings.{◌>>=◌}
use Rattle.wh_lines.specs.KeptLines.{Kept, Rest}
use Rattle.wh_lines.specs.KeptLines.Rest.{line, bad_byte, end}
use Rattle.wh_lines.specs.LineReadings.{Reading, start}
use Rattle.wh_fields.specs.TupleFields.{tuple_at}
use Rattle.wh_fields.specs.MoveFields.{moves_at}
use Rattle.wh_data.specs.declared.command.Command.{Command}
use Rattle.wh_data.specs.declared.command.Command.TheVariants as commands
use Rattle.wh_data.specs.ProblemData.{ProblemData}
use Rattle.wh_data.specs.ProblemData.ProblemData.{reduce, decide, straighten, stabiliser}
use Rattle.wh_text.specs.RankLines.{rank_after}

-- ---- the lines
-- The tuple of rank n that a line tells.
abbrev pub tuple_line : ℕ → Kept → Result TupleData ReadError
tuple_line n k = cond (are k.keyword (codes "tuple")) (tuple_at n k.number k.fields) (Err (errors.BadLine k.number))

-- The moves of rank n of the fields after the keyword: first their number is tried, and then the fields.
abbrev pub given_moves : ℕ → Kept → Result (List Move) ReadError
given_moves n k = cond (ltb most_given_moves (length k.fields)) (Err (errors.TooManyMoves k.number (length k.fields))) (moves_at n k.number k.fields)

-- No line is left.
abbrev pub nothing_left : Rest → Result (Unit {0}) ReadError
nothing_left (line k later) = Err (errors.BadLine k.number)
nothing_left (bad_byte l c) = Err (errors.BadByte l c)
nothing_left (end l) = Ok tt

-- The moves of rank n that the last line tells.
abbrev pub last_moves : ℕ → Kept → Rest → Result (List Move) ReadError
last_moves n k later =
    given_moves n k >>= λ ms.
    nothing_left later >>= λ none.
    Ok ms

-- Whether a line has moves, where these are taken.
abbrev pub has_moves : Bool → Kept → Bool
has_moves takes k = takes && are k.keyword (codes "moves")

-- What the lines after that of the rank tell: tuples, and the moves of the last line, or the refusal of a text that lacks them.
pub record Stated : Type 0 where
  pub tuples : List TupleData
  pub moves : Result (List Move) ReadError

-- One more tuple before these.
abbrev pub with_tuple : TupleData → Stated → Stated
with_tuple t s = record { tuples = t ∷ s.tuples; moves = s.moves }

-- The lines that are left tell tuples of rank n, and then perhaps moves, where these are taken.
unfoldable pub stated : Bool → ℕ → Rest → Result Stated ReadError
stated takes n (line k later) =
    cond (has_moves takes k) (last_moves n k later >>= λ ms. Ok (record { tuples = []; moves = Ok ms }))
    (tuple_line n k >>= λ t.
    stated takes n later >>= λ s.
    Ok (with_tuple t s))
stated takes n (bad_byte l c) = Err (errors.BadByte l c)
stated takes n (end l) = Ok (record { tuples = []; moves = Err (errors.BadLine l) })

-- Whether the problems of a command have moves.
abbrev pub takes_moves : Command → Bool
takes_moves commands.Reduce = false
takes_moves commands.Decide = false
takes_moves commands.Straighten = true
takes_moves commands.Stabiliser = false

-- ---- the text
-- The one tuple of a problem that has one.
abbrev pub one_tuple : List TupleData → Result TupleData ReadError
one_tuple [] = Err (errors.TupleCount 1 0)
one_tuple (t ∷ []) = Ok t
one_tuple (t ∷ u ∷ ts) = Err (errors.TupleCount 1 (length (t ∷ u ∷ ts)))

-- The two tuples of a problem that has two.
abbrev pub two_tuples : List TupleData → Result (TupleData × TupleData) ReadError
two_tuples [] = Err (errors.TupleCount 2 0)
two_tuples (t ∷ []) = Err (errors.TupleCount 2 1)
two_tuples (t ∷ u ∷ []) = Ok (t, u)
two_tuples (t ∷ u ∷ v ∷ ts) = Err (errors.TupleCount 2 (length (t ∷ u ∷ v ∷ ts)))

-- The problem of two tuples, which have equally many words.
abbrev pub decide_both : TupleData → TupleData → Result ProblemData ReadError
decide_both s t = cond (length s.words == length t.words) (Ok (decide s t)) (Err (errors.SizeMismatch (length s.words) (length t.words)))

-- The problem of a tuple and moves, where these are stated.
abbrev pub straighten_by : TupleData → Result (List Move) ReadError → Result ProblemData ReadError
straighten_by t moves = moves >>= λ ms. Ok (straighten t ms)

-- The problem that a command has with what is stated. The tuples are counted before moves are missed.
abbrev pub problem_with : Command → Stated → Result ProblemData ReadError
problem_with commands.Reduce s = one_tuple s.tuples >>= λ t. Ok (reduce t)
problem_with commands.Decide s = two_tuples s.tuples >>= λ p. decide_both p.0 p.1
problem_with commands.Straighten s = one_tuple s.tuples >>= λ t. straighten_by t s.moves
problem_with commands.Stabiliser s = one_tuple s.tuples >>= λ t. Ok (stabiliser t)

-- The problem of a command that the lines of a text state, or the first refusal: the lines in order, then the whole.
unfoldable pub problem_after : Command → Reading → Result ProblemData ReadError
problem_after command r =
    rank_after command r >>= λ n.
    stated (takes_moves command) n.0 n.1.rest >>= λ s.
    problem_with command s

-- The problem of a command that a text states, or the first refusal: its size first.
unfoldable pub problem : Command → List ℕ → Result ProblemData ReadError
problem command bytes = cond (ltb most_problem_bytes (length bytes)) (Err (errors.InputTooLong most_problem_bytes)) (problem_after command (start bytes))
