-- What a text tells of a problem.
use Rattle.std.specs.Prelude.{List}
use Rattle.wh_words.specs.Tuples.{TupleData}
use Rattle.wh_words.specs.Moves.{Move}
use Rattle.wh_data.specs.declared.problem.Problem.{Problem}
use Rattle.wh_data.specs.declared.problem.Problem.TheVariants as problems

-- The problem of a command, whatever room its tuples have.
pub data ProblemData : Type 0 where
  reduce : TupleData → ProblemData
  decide : TupleData → TupleData → ProblemData
  straighten : TupleData → List Move → ProblemData
  stabiliser : TupleData → ProblemData

-- What a text tells of a problem: all but the room of its tuples.
abbrev pub problem_of : Problem → ProblemData
problem_of (problems.Reduce t) = reduce t.plain
problem_of (problems.Decide s t) = decide s.plain t.plain
problem_of (problems.Straighten t ms) = straighten t.plain ms
problem_of (problems.Stabiliser t) = stabiliser t.plain
