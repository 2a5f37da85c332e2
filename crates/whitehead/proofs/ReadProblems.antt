-- What is known of the problems that are read: they can be answered.
use Rattle.std.proofs.Common.{◌≡◌, ℕ, ◌==◌, ltb, List, length, refl, sym, ap, subst, Ok}
use Rattle.wh_words.specs.Tuples.{TupleData, IsTuple}
use Rattle.wh_words.specs.Moves.{Move}
use Rattle.wh_words.proofs.StoredWords.{IsTuple-of}
use Rattle.wh_data.specs.declared.command.Command.{Command}
use Rattle.wh_data.specs.declared.command.Command.TheVariants as commands
use Rattle.wh_lines.specs.declared.read_error.ReadError.TheVariants as errors
use Rattle.wh_lines.specs.LineReadings.{start}
use Rattle.wh_lines.specs.Readings.{◌>>=◌}
use Rattle.wh_text.specs.RankLines.{rank_after}
use Rattle.wh_data.specs.ProblemData.{ProblemData}
use Rattle.wh_text.specs.Problems.{problem, problem_after, problem_with, Stated, stated, takes_moves, one_tuple, two_tuples, decide_both, straighten_by}
use Rattle.wh_data.specs.Limits.{most_problem_bytes}
use Rattle.wh_data.specs.ProblemData.ProblemData.{reduce, decide, straighten, stabiliser}
use Rattle.wh_text.specs.Laws.{IsTupleLine}
use Rattle.wh_lines.proofs.Equations.{bind_ok, ok_is, if_ok, unless_ok}
use Rattle.wh_text.proofs.ProblemLaws.{reads_reduce_texts, reads_decide_texts, reads_straighten_texts, reads_stabiliser_texts}
use Rattle.wh_answer.specs.Answers.{IsAnswerable}
use Rattle.wh_answer.specs.Laws.{IsProblem}
use Rattle.whitehead.proofs.ReadMoves.{fields_moves}

line_tuple : (n : ℕ) (line : List ℕ) (t : TupleData) → IsTupleLine n line t → IsTuple t
line_tuple n line t l = subst IsTuple (sym l.cyclic) (IsTuple-of n l.written l.of_rank l.few l.short)

line_rank : (n : ℕ) (line : List ℕ) (t : TupleData) → IsTupleLine n line t → t.rank ≡ n
line_rank n line t l = ap (λ (u : TupleData). u.rank) l.cyclic

-- ---- a problem is one of its command
abbrev pub IsOf : Command → ProblemData → Type 0
IsOf commands.Reduce (reduce t) = Unit {0}
IsOf commands.Reduce (decide s t) = ⊥
IsOf commands.Reduce (straighten t list) = ⊥
IsOf commands.Reduce (stabiliser t) = ⊥
IsOf commands.Decide (reduce t) = ⊥
IsOf commands.Decide (decide s t) = Unit {0}
IsOf commands.Decide (straighten t list) = ⊥
IsOf commands.Decide (stabiliser t) = ⊥
IsOf commands.Straighten (reduce t) = ⊥
IsOf commands.Straighten (decide s t) = ⊥
IsOf commands.Straighten (straighten t list) = Unit {0}
IsOf commands.Straighten (stabiliser t) = ⊥
IsOf commands.Stabiliser (reduce t) = ⊥
IsOf commands.Stabiliser (decide s t) = ⊥
IsOf commands.Stabiliser (straighten t list) = ⊥
IsOf commands.Stabiliser (stabiliser t) = Unit {0}

made_of : (command : Command) (s : Stated) (p : ProblemData) → problem_with command s ≡ Ok p → IsOf command p
made_of commands.Reduce s p e =
    let one = bind_ok (one_tuple s.tuples) (λ t. Ok (reduce t)) p e in
    subst (IsOf commands.Reduce) (ok_is (reduce one.0) p one.2) tt
made_of commands.Decide s p e =
    let both = bind_ok (two_tuples s.tuples) (λ q. decide_both q.0 q.1) p e in
    let made = if_ok (length both.0.0.words == length both.0.1.words) (errors.SizeMismatch (length both.0.0.words) (length both.0.1.words)) (Ok (decide both.0.0 both.0.1)) p both.2 in
    subst (IsOf commands.Decide) (ok_is (decide both.0.0 both.0.1) p made.1) tt
made_of commands.Straighten s p e =
    let one = bind_ok (one_tuple s.tuples) (λ t. straighten_by t s.moves) p e in
    let given = bind_ok s.moves (λ ms. Ok (straighten one.0 ms)) p one.2 in
    subst (IsOf commands.Straighten) (ok_is (straighten one.0 given.0) p given.2) tt
made_of commands.Stabiliser s p e =
    let one = bind_ok (one_tuple s.tuples) (λ t. Ok (stabiliser t)) p e in
    subst (IsOf commands.Stabiliser) (ok_is (stabiliser one.0) p one.2) tt

pub of_command : (command : Command) (bytes : List ℕ) (p : ProblemData) → problem command bytes ≡ Ok p → IsOf command p
unfolding problem problem_after
of_command command bytes p e =
    let short = unless_ok (ltb most_problem_bytes (length bytes)) (errors.InputTooLong most_problem_bytes) (problem_after command (start bytes)) p e in
    let takes = takes_moves command in
    let rank = bind_ok (rank_after command (start bytes)) (λ n. stated takes n.0 n.1.rest >>= λ s. problem_with command s) p short.1 in
    let lines = bind_ok (stated takes rank.0.0 rank.0.1.rest) (λ s. problem_with command s) p rank.2 in
    made_of command lines.0 p lines.2

-- ---- what is read
pub read_problem : (command : Command) (bytes : List ℕ) (p : ProblemData) → problem command bytes ≡ Ok p → IsProblem p
read_problem commands.Reduce bytes (reduce t) e = let r = ((reads_reduce_texts bytes t).0 e).1 in (line_tuple t.rank r.tuple_line t r.tuple, r.least, r.greatest)
read_problem commands.Reduce bytes (decide s t) e = absurd (of_command commands.Reduce bytes (decide s t) e)
read_problem commands.Reduce bytes (straighten t list) e = absurd (of_command commands.Reduce bytes (straighten t list) e)
read_problem commands.Reduce bytes (stabiliser t) e = absurd (of_command commands.Reduce bytes (stabiliser t) e)
read_problem commands.Decide bytes (stabiliser t) e = absurd (of_command commands.Decide bytes (stabiliser t) e)
read_problem commands.Straighten bytes (stabiliser t) e = absurd (of_command commands.Straighten bytes (stabiliser t) e)
read_problem commands.Stabiliser bytes (reduce t) e = absurd (of_command commands.Stabiliser bytes (reduce t) e)
read_problem commands.Stabiliser bytes (decide s t) e = absurd (of_command commands.Stabiliser bytes (decide s t) e)
read_problem commands.Stabiliser bytes (straighten t list) e = absurd (of_command commands.Stabiliser bytes (straighten t list) e)
read_problem commands.Stabiliser bytes (stabiliser t) e = let r = ((reads_stabiliser_texts bytes t).0 e).1 in (line_tuple t.rank r.tuple_line t r.tuple, r.least, r.greatest)
read_problem commands.Decide bytes (reduce t) e = absurd (of_command commands.Decide bytes (reduce t) e)
read_problem commands.Decide bytes (straighten t list) e = absurd (of_command commands.Decide bytes (straighten t list) e)
read_problem commands.Decide bytes (decide s t) e =
    let r = ((reads_decide_texts bytes s t).0 e).1 in
    let ranks : s.rank ≡ t.rank = sym (line_rank s.rank r.second_line t r.second) in
    (line_tuple s.rank r.first_line s r.first, line_tuple s.rank r.second_line t r.second, ranks, r.least, r.greatest, r.equal)
read_problem commands.Straighten bytes (reduce t) e = absurd (of_command commands.Straighten bytes (reduce t) e)
read_problem commands.Straighten bytes (decide s t) e = absurd (of_command commands.Straighten bytes (decide s t) e)
read_problem commands.Straighten bytes (straighten t list) e =
    let r = ((reads_straighten_texts bytes t list).0 e).1 in
    (line_tuple t.rank r.tuple_line t r.tuple, r.least, r.greatest, fields_moves t.rank r.moves.fields list r.greatest r.moves.told)

-- Two tuples that were read can be decided.
pub decidable : (s t : TupleData) → IsProblem (decide s t) → IsAnswerable (decide s t)
decidable s t is = (is.2, is.4, is.5)

-- A problem of `straighten` was read by its command.
pub straighten_of : (command : Command) (bytes : List ℕ) (t : TupleData) (list : List Move) → problem command bytes ≡ Ok (straighten t list) → command ≡ commands.Straighten
straighten_of commands.Reduce bytes t list e = absurd (of_command commands.Reduce bytes (straighten t list) e)
straighten_of commands.Decide bytes t list e = absurd (of_command commands.Decide bytes (straighten t list) e)
straighten_of commands.Straighten bytes t list e = refl
straighten_of commands.Stabiliser bytes t list e = absurd (of_command commands.Stabiliser bytes (straighten t list) e)
