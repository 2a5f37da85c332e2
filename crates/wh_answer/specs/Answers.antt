-- The answer to a problem, after Lyndon and Schupp, I.4.
use Rattle.std.specs.Prelude.{◌≡◌, ◌≢◌, ℕ, ◌<◌, ◌≤◌, List, ◌++◌, length, map}
use Rattle.wh_words.specs.Limits.{most_level_rank, most_level_length, most_stabiliser_rank}
use Rattle.wh_words.specs.Tuples.{TupleData, Tuple, tuple_length}
use Rattle.wh_words.specs.Moves.{Move}
use Rattle.wh_words.specs.MoveLists.{inverse_list}
use Rattle.wh_words.specs.Action.{act_all}
use Rattle.wh_words.specs.CapacityTraces.{IsCapacityTrace}
use Rattle.wh_words.specs.Levels.{InLevel, IsLevel, IsFirstWalk, HasMoreThan}
use Rattle.wh_moves.specs.Acts.{FitsOnTheWay}
use Rattle.wh_peak.specs.Straightness.{IsStraightened}
use Rattle.wh_data.specs.declared.answer.Side.{Side}
use Rattle.wh_data.specs.declared.answer.Bound.TheVariants.{Length, Level}
use Rattle.wh_data.specs.declared.answer.Verdict.{Verdict}
use Rattle.wh_data.specs.declared.answer.Verdict.TheVariants.{Yes, NoLength, NoLevel, Undecided}
use Rattle.wh_data.specs.declared.answer.Answer.{Answer}
use Rattle.wh_data.specs.declared.answer.Answer.TheVariants as answers
use Rattle.wh_data.specs.ProblemData.{ProblemData}
use Rattle.wh_data.specs.ProblemData.ProblemData.{reduce, decide, straighten, stabiliser}
use Rattle.wh_answer.specs.Sides.{IsSideOf}
use Rattle.wh_answer.specs.StabiliserAnswers.{Presents}

-- The traces of two tuples end at different tuples of one length.
pub record EndApart (s t : TupleData) (ms ns : List Move) (u v : TupleData) : Type 0 where
  pub first : IsCapacityTrace s ms u
  pub second : IsCapacityTrace t ns v
  pub level : tuple_length u ≡ tuple_length v
  pub apart : u ≢ v

-- The verdict on two tuples: the first of these cases that holds of the ends of their traces.
pub data Decides (limit : ℕ) (s t : TupleData) : Verdict → Type 0 where
  other_lengths : {first second : Side} → IsSideOf s first → IsSideOf t second → tuple_length first.end.plain ≢ tuple_length second.end.plain → Decides limit s t (NoLength first second)
  one_end : {ms ns : List Move} {u : TupleData} → IsCapacityTrace s ms u → IsCapacityTrace t ns u → Decides limit s t (Yes (ms ++ inverse_list ns))
  too_long : {ms ns : List Move} {u v : TupleData} → EndApart s t ms ns u v → most_level_length < tuple_length u → Decides limit s t (Undecided (Length (tuple_length u)))
  too_many : {ms ns : List Move} {u v : TupleData} → EndApart s t ms ns u v → tuple_length u ≤ most_level_length → HasMoreThan u limit → Decides limit s t (Undecided (Level limit))
  joined : {ms ns walk : List Move} {u v : TupleData} {ts : List TupleData} → EndApart s t ms ns u v → tuple_length u ≤ most_level_length → IsLevel u ts → length ts ≤ limit → IsFirstWalk u v walk →
      Decides limit s t (Yes (ms ++ (walk ++ inverse_list ns)))
  off_level : {first second : Side} {level : List Tuple} → IsSideOf s first → IsSideOf t second → EndApart s t first.trace second.trace first.end.plain second.end.plain → tuple_length first.end.plain ≤ most_level_length →
      IsLevel first.end.plain (map (λ u. u.plain) level) → length level ≤ limit → ¬ (InLevel first.end.plain second.end.plain) → Decides limit s t (NoLevel first second level)

-- The moves of a yes carry the first tuple onto the second.
abbrev pub Carries : TupleData → TupleData → Verdict → Type 0
Carries s t (Yes ms) = act_all s ms ≡ t
Carries s t (NoLength first second) = Unit {0}
Carries s t (NoLevel first second level) = Unit {0}
Carries s t (Undecided bound) = Unit {0}

-- The verdict is the one on two tuples, and where it is a yes its moves carry the first onto the second.
abbrev pub IsVerdict : ℕ → TupleData → TupleData → Verdict → Type 0
IsVerdict limit s t verdict = Decides limit s t verdict × Carries s t verdict

-- No tuple on the way of the given moves has too many letters, the moves are straight in their place, and both lead from the tuple to the end.
pub record Straightens (t : TupleData) (given ms : List Move) (end : TupleData) : Type 0 where
  pub fits : FitsOnTheWay t given
  pub straightened : IsStraightened t given ms
  pub leads : act_all t given ≡ end

-- The answer is one to the problem: for a tuple that is to be reduced, the tuple itself and its side; for two tuples, themselves and the verdict on them; for a list of moves from a tuple, both of them, straight moves in the place of the list, and the end; and for the stabiliser of a tuple, the tuple itself and what is found of it.
abbrev pub Answers : ℕ → ProblemData → Answer → Type 0
Answers limit (reduce t) (answers.Reduce tuple side) = (tuple.plain ≡ t) × IsSideOf t side
Answers limit (reduce t) (answers.Decide first second verdict) = ⊥
Answers limit (reduce t) (answers.Straighten tuple given ms end) = ⊥
Answers limit (reduce t) (answers.Stabiliser tuple verdict) = ⊥
Answers limit (decide s t) (answers.Reduce tuple side) = ⊥
Answers limit (decide s t) (answers.Decide first second verdict) = (first.plain ≡ s) × (second.plain ≡ t) × IsVerdict limit s t verdict
Answers limit (decide s t) (answers.Straighten tuple given ms end) = ⊥
Answers limit (decide s t) (answers.Stabiliser tuple verdict) = ⊥
Answers limit (straighten t list) (answers.Reduce tuple side) = ⊥
Answers limit (straighten t list) (answers.Decide first second verdict) = ⊥
Answers limit (straighten t list) (answers.Straighten tuple given ms end) = (tuple.plain ≡ t) × (given ≡ list) × Straightens t list ms end.plain
Answers limit (straighten t list) (answers.Stabiliser tuple verdict) = ⊥
Answers limit (stabiliser t) (answers.Reduce tuple side) = ⊥
Answers limit (stabiliser t) (answers.Decide first second verdict) = ⊥
Answers limit (stabiliser t) (answers.Straighten tuple given ms end) = ⊥
Answers limit (stabiliser t) (answers.Stabiliser tuple verdict) = (tuple.plain ≡ t) × Presents limit t verdict

-- The problem can be answered by levels: it isn't one of `straighten`; two tuples are of one rank, which is one of levels, and have equally many words; and the rank of a tuple whose stabiliser is asked for is one of stabilisers.
abbrev pub IsAnswerable : ProblemData → Type 0
IsAnswerable (reduce t) = Unit {0}
IsAnswerable (decide s t) = (s.rank ≡ t.rank) × (s.rank ≤ most_level_rank) × (length s.words ≡ length t.words)
IsAnswerable (straighten t list) = ⊥
IsAnswerable (stabiliser t) = t.rank ≤ most_stabiliser_rank
