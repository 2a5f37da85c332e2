-- What exploring a level answers, after Lyndon and Schupp, I.4.
use Rattle.std.specs.Prelude.{◌≡◌, ℕ, ◌+◌, ◌≤◌, Bool, true, false, length}
use Rattle.wh_words.specs.Limits.{most_level_rank}
use Rattle.wh_words.specs.Tuples.{TupleData, Tuple, IsTuple}
use Rattle.wh_words.specs.Levels.{HasMoreThan}
use Rattle.wh_level.specs.Trees.{IsClosedLevel}
use Rattle.wh_level.specs.PlacedTuples.{HasRoomsFor}
use Rattle.wh_level.specs.GrowingLevels.{GrowingData, HasGoneOver}
use Rattle.wh_workers.specs.declared.explored.Explored.{Explored}
use Rattle.wh_workers.specs.declared.explored.Explored.TheVariants.{Closed, Passed}

-- The whole level of the root, where it has at most this many tuples, and else that it has more.
abbrev pub Explores : TupleData → ℕ → Explored → Type 0
Explores root limit (Closed level) = IsClosedLevel level × (level.root ≡ root) × (length level.tuples ≤ limit)
Explores root limit Passed = HasMoreThan root limit

-- The steps that were taken are as many as the tuples of the level, where it is answered.
abbrev pub CountsTuples : ℕ → ℕ → Explored → Type 0
CountsTuples before after (Closed level) = after ≡ before + length level.tuples
CountsTuples before after Passed = Unit {0}

-- ---- on the way
-- A tuple of a rank of levels, whose images fit in the rooms of another.
pub record IsExpandable (image : Tuple) (t : TupleData) : Type 0 where
  pub tuple : IsTuple t
  pub rank : t.rank ≤ most_level_rank
  pub rooms : HasRoomsFor image t

-- What expanding tuples one after the other answers: true where all that were found are expanded, which are at most so many, and false where the level has more.
abbrev pub Expands : TupleData → ℕ → GrowingData → Bool → Type 0
Expands root limit level true = HasGoneOver root level (length level.tuples) × (length level.tuples ≤ limit)
Expands root limit level false = HasMoreThan root limit

-- The steps that were taken are as many as the tuples that were found, where all are expanded.
abbrev pub CountsExpanded : ℕ → ℕ → GrowingData → Bool → Type 0
CountsExpanded before after level true = after ≡ before + length level.tuples
CountsExpanded before after level false = Unit {0}
