-- The verdict in each case, and that the moves of a yes carry the first tuple onto the second.
use Rattle.std.proofs.Common.{◌≡◌, ◌≢◌, ℕ, ◌<◌, ◌≤◌, List, [], ◌∷◌, ◌++◌, length, map, refl, sym, ap, ◌∙◌, subst, arith}
use Rattle.std.proofs.lemmas.List.{length-map}
use Rattle.wh_words.proofs.MoveLists.{act_all-append}
use Rattle.wh_words.specs.Limits.{most_level_length}
use Rattle.wh_words.specs.Tuples.{TupleData, Tuple, tuple_length}
use Rattle.wh_words.specs.Moves.{Move}
use Rattle.wh_words.specs.MoveLists.{inverse_list}
use Rattle.wh_words.specs.Action.{act, act_all}
use Rattle.wh_words.specs.CapacityTraces.{IsCapacityTrace}
use Rattle.wh_words.specs.CapacityTraces.IsCapacityTrace.{done, step}
use Rattle.wh_words.specs.Levels.{InLevel, IsLevel, IsFirstWalk, HasMoreThan}
use Rattle.wh_reduce.specs.declared.trace.Trace.{Trace}
use Rattle.wh_level.specs.Trees.{LevelData, IsClosedLevel}
use Rattle.wh_data.specs.declared.answer.Side.{Side}
use Rattle.wh_data.specs.declared.answer.Bound.TheVariants.{Length, Level}
use Rattle.wh_data.specs.declared.answer.Verdict.TheVariants.{Yes, NoLength, NoLevel, Undecided}
use Rattle.wh_answer.specs.Sides.{IsSideOf}
use Rattle.wh_answer.specs.Answers.{EndApart, IsVerdict}
use Rattle.wh_answer.specs.Answers.Decides.{other_lengths, one_end, too_long, too_many, joined, off_level}
use Rattle.wh_answer.specs.Traced.{AreTraced, AreApart}
use Rattle.wh_answer.specs.Findings.{Finds}
use Rattle.wh_answer.specs.declared.finding.Finding.TheVariants as findings
use Rattle.wh_answer.proofs.Inverses.{trace_leads, walk_leads, trace_back}

-- A trace keeps the rank.
pub trace_rank : (t u : TupleData) (ms : List Move) → IsCapacityTrace t ms u → u.rank ≡ t.rank
trace_rank t u [] (done flat) = refl
trace_rank t u (m ∷ ms) (step s r) = trace_rank (act t m) u ms r

ends_apart : (s t : TupleData) (first second : Trace) → AreTraced s t first second → AreApart first second → EndApart s t first.moves second.moves first.end.plain second.end.plain
ends_apart s t first second traced apart = record { first = traced.first_trace; second = traced.second_trace; level = apart.0; apart = apart.1 }

pub no_length : (limit : ℕ) (s t : TupleData) (first second : Trace) (a b : Side) → AreTraced s t first second → IsSideOf s a → IsSideOf t b → a.end ≡ first.end → b.end ≡ second.end →
    tuple_length first.end.plain ≢ tuple_length second.end.plain → IsVerdict limit s t (NoLength a b)
no_length limit s t first second a b traced left right e f lengths =
    (other_lengths left right (λ same. lengths (ap (λ (u : Tuple). tuple_length u.plain) (sym e) ∙ same ∙ ap (λ (u : Tuple). tuple_length u.plain) f)), tt)

-- The moves of a trace, then moves between the ends, and then the inverse of a trace.
carried : (s t : TupleData) (first second : Trace) (ms : List Move) → AreTraced s t first second → act_all first.end.plain ms ≡ second.end.plain → act_all s (first.moves ++ (ms ++ inverse_list second.moves)) ≡ t
carried s t first second ms traced between =
    act_all-append s first.moves (ms ++ inverse_list second.moves)
    ∙ ap (λ u. act_all u (ms ++ inverse_list second.moves)) (trace_leads s first.end.plain first.moves traced.first_trace)
    ∙ act_all-append first.end.plain ms (inverse_list second.moves)
    ∙ ap (λ u. act_all u (inverse_list second.moves)) between
    ∙ trace_back t second.end.plain second.moves traced.second_tuple traced.second_low traced.second_trace

pub yes_at_once : (limit : ℕ) (s t : TupleData) (first second : Trace) (ms : List Move) → AreTraced s t first second → first.end.plain ≡ second.end.plain → ms ≡ first.moves ++ ([] ++ inverse_list second.moves) →
    IsVerdict limit s t (Yes ms)
yes_at_once limit s t first second ms traced same e =
    subst (λ ns. IsVerdict limit s t (Yes ns)) (sym e)
    (one_end traced.first_trace (subst (λ u. IsCapacityTrace t second.moves u) (sym same) traced.second_trace), carried s t first second [] traced same)

pub yes_by_walk : (limit : ℕ) (s t : TupleData) (first second : Trace) (level : LevelData) (walk ms : List Move) → AreTraced s t first second → AreApart first second → tuple_length first.end.plain ≤ most_level_length →
    IsClosedLevel level → level.root ≡ first.end.plain → length level.tuples ≤ limit → IsFirstWalk level.root second.end.plain walk → ms ≡ first.moves ++ (walk ++ inverse_list second.moves) → IsVerdict limit s t (Yes ms)
yes_by_walk limit s t first second level walk ms traced apart low closed e few first_walk f =
    let walked : IsFirstWalk first.end.plain second.end.plain walk = subst (λ u. IsFirstWalk u second.end.plain walk) e first_walk in
    subst (λ ns. IsVerdict limit s t (Yes ns)) (sym f) (
      joined (ends_apart s t first second traced apart) low (subst (λ u. IsLevel u level.tuples) e closed.level) few walked,
      carried s t first second walk traced (walk_leads first.end.plain second.end.plain walk walked.leads),
    )

pub no_level : (limit : ℕ) (s t : TupleData) (first second : Trace) (a b : Side) (ts : List Tuple) → AreTraced s t first second → AreApart first second → tuple_length first.end.plain ≤ most_level_length →
    IsLevel first.end.plain (map (λ u. u.plain) ts) → length ts ≤ limit → ¬ (InLevel first.end.plain second.end.plain) → IsSideOf s a → IsSideOf t b → (a.trace ≡ first.moves) × (a.end ≡ first.end) → (b.trace ≡ second.moves) × (b.end ≡ second.end) →
    IsVerdict limit s t (NoLevel a b ts)
no_level limit s t first second a b ts traced apart low level few off left right own other =
    let end : first.end.plain ≡ a.end.plain = ap (λ (u : Tuple). u.plain) (sym own.1) in
    let last : second.end.plain ≡ b.end.plain = ap (λ (u : Tuple). u.plain) (sym other.1) in (
      off_level left right
          (record {
            first = left.trace;
            second = right.trace;
            level = ap (λ (u : Tuple). tuple_length u.plain) own.1 ∙ apart.0 ∙ ap tuple_length last;
            apart = λ one. apart.1 (end ∙ one ∙ sym last);
          })
          (omega (arith, ap (λ (u : Tuple). tuple_length u.plain) own.1, low))
          (subst (λ u. IsLevel u (map (λ v. v.plain) ts)) end level)
          few
          (λ reached. off (subst (λ u. InLevel u second.end.plain) (sym end) (subst (InLevel a.end.plain) (sym last) reached))),
      tt,
    )

pub undecided_length : (limit : ℕ) (s t : TupleData) (first second : Trace) (n : ℕ) → AreTraced s t first second → AreApart first second → n ≡ tuple_length first.end.plain → most_level_length < n → IsVerdict limit s t (Undecided (Length n))
undecided_length limit s t first second n traced apart e long =
    subst (λ k. IsVerdict limit s t (Undecided (Length k))) (sym e) (too_long (ends_apart s t first second traced apart) (omega (arith, e, long)), tt)

pub undecided_level : (limit : ℕ) (s t : TupleData) (first second : Trace) → AreTraced s t first second → AreApart first second → tuple_length first.end.plain ≤ most_level_length → HasMoreThan first.end.plain limit → IsVerdict limit s t (Undecided (Level limit))
undecided_level limit s t first second traced apart low more = (too_many (ends_apart s t first second traced apart) low more, tt)

-- The second end isn't in the level of the first.
pub found_off : (limit : ℕ) (first second : Trace) (level : LevelData) (ts : List Tuple) → AreApart first second → tuple_length first.end.plain ≤ most_level_length → IsClosedLevel level → level.root ≡ first.end.plain →
    length level.tuples ≤ limit → ¬ (InLevel level.root second.end.plain) → map (λ u. u.plain) ts ≡ level.tuples → Finds limit first second (findings.Level ts)
found_off limit first second level ts apart low closed e few off same = (
  apart,
  low,
  subst (λ us. IsLevel first.end.plain us) (sym same) (subst (λ u. IsLevel u level.tuples) e closed.level),
  omega (arith, few, ap length same, length-map ts (λ (u : Tuple). u.plain)),
  λ reached. off (subst (λ u. InLevel u second.end.plain) (sym e) reached),
)
