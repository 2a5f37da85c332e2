-- What is found of two tuples by their traces, before the sides of a no are made.
use Rattle.std.specs.Prelude.{◌≢◌, ℕ, ◌≤◌, length, map}
use Rattle.wh_words.specs.Limits.{most_level_length}
use Rattle.wh_words.specs.Tuples.{TupleData, tuple_length}
use Rattle.wh_words.specs.Levels.{InLevel, IsLevel}
use Rattle.wh_reduce.specs.declared.trace.Trace.{Trace}
use Rattle.wh_data.specs.declared.answer.Verdict.{Verdict}
use Rattle.wh_data.specs.declared.answer.Verdict.TheVariants.{Yes, Undecided}
use Rattle.wh_answer.specs.declared.finding.Finding.{Finding}
use Rattle.wh_answer.specs.declared.finding.Finding.TheVariants as findings
use Rattle.wh_answer.specs.Answers.{IsVerdict}
use Rattle.wh_answer.specs.Traced.{AreTraced, AreApart}

-- The verdict on every two tuples that have these traces.
abbrev pub Settles : ℕ → Trace → Trace → Verdict → Type 0
Settles limit first second verdict = (s t : TupleData) → AreTraced s t first second → IsVerdict limit s t verdict

-- What is found of two traces: moves or a bound that settle the verdict, ends of different lengths, or a level of at most so many tuples that the second end isn't in.
abbrev pub Finds : ℕ → Trace → Trace → Finding → Type 0
Finds limit first second (findings.Moves ms) = Settles limit first second (Yes ms)
Finds limit first second findings.Lengths = tuple_length first.end.plain ≢ tuple_length second.end.plain
Finds limit first second (findings.Level ts) =
    AreApart first second × (tuple_length first.end.plain ≤ most_level_length) × IsLevel first.end.plain (map (λ u. u.plain) ts) × (length ts ≤ limit) × ¬ (InLevel first.end.plain second.end.plain)
Finds limit first second (findings.Bound bound) = Settles limit first second (Undecided bound)
