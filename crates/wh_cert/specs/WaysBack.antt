-- Where the parents of a tree lead back to from each place, as the program finds it.
use Rattle.std.specs.Prelude.{◌≡◌, ℕ, zero, suc, ◌+◌, ◌<◌, ltb, cond, List, length, get_or, Option, Some, None, IfSome, slice_get, ◌↔◌}
use Rattle.std.specs.List.{All}
use Rattle.wh_data.specs.AnswerData.{PartsData}
use Rattle.wh_words.specs.Tuples.{TupleData}
use Rattle.wh_words.specs.Moves.{Move, IsMove, IsIdentityCut}
use Rattle.wh_words.specs.Action.{act}
use Rattle.wh_level.specs.Trees.{Parents, HasWayBack}

-- From a place v with this entry among n places: to its parent, or past all places where it has none. Where its parent isn't a place, to v itself.
abbrev pub back_by : ℕ → ℕ → Option (Option (ℕ × Move)) → ℕ
back_by n v None = n
back_by n v (Some None) = n
back_by n v (Some (Some s)) = cond (ltb s.0 n) s.0 v

abbrev pub step_back : Parents → ℕ → ℕ
step_back parents v = back_by (length parents) v (slice_get parents v)

-- So many steps back.
unfoldable pub steps_back : Parents → ℕ → ℕ → ℕ
steps_back parents zero v = v
steps_back parents (suc k) v = steps_back parents k (step_back parents v)

-- For each of the first j places, where k steps back lead.
pub record AreSteps (parents : Parents) (k j : ℕ) (to : List ℕ) : Type 0 where
  pub count : length to ≡ j
  pub each : (v : ℕ) → v < j → get_or to v 0 ≡ steps_back parents k v

-- The first j numbers of a list are where a map leads that is followed twice.
pub record AreTwice (to : List ℕ) (j : ℕ) (twice : List ℕ) : Type 0 where
  pub count : length twice ≡ j
  pub each : (v : ℕ) → v < j → get_or twice v 0 ≡ get_or to (get_or to v 0) 0

-- The places from which there is a way back are led past all places.
pub record TellWaysBack (parents : Parents) (to : List ℕ) : Type 0 where
  pub count : length to ≡ length parents + 1
  pub exact : (v : ℕ) → v < length parents → (get_or to v 0 ≡ length parents) ↔ HasWayBack parents v

-- A move that isn't an identity cut leads to a tuple from the one at a place of a list.
pub record IsLed (ts : List TupleData) (from : ℕ) (via : Move) (t : TupleData) : Type 0 where
  pub tuple : TupleData
  pub starts : slice_get ts from ≡ Some tuple
  pub valid : IsMove via
  pub moves : ¬ (IsIdentityCut via.kind)
  pub ends : act tuple via ≡ t

-- The vertices and the moves of the tree have one rank.
abbrev pub HaveOneRank : PartsData → Type 0
HaveOneRank p = (n : ℕ) × All (λ t. t.rank ≡ n) p.vertices × All (λ e. IfSome e (λ s. s.1.rank ≡ n)) p.tree

-- The one place without a parent is this.
abbrev pub IsRootOf : Parents → ℕ → Type 0
IsRootOf parents root = (root < length parents) × ((v : ℕ) → (slice_get parents v ≡ Some None) ↔ (v ≡ root))
