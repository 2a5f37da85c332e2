-- Expanding one tuple after another, for `explore_one`.
use Rattle.std.proofs.Common.{◌≡◌, ◌⊎◌, ℕ, ◌+◌, ◌<◌, ◌≤◌, length, refl, sym, ap, ◌∙◌, subst, arith, inl, inr, Some}
use Rattle.std.specs.Prelude.{slice_get}
use Rattle.std.specs.List.{IsDistinct}
use Rattle.std.specs.Ordering.{eq_by_cmp}
use Rattle.std.proofs.lemmas.Option.{slice_get_within, get_or_from_slice_get}
use Rattle.wh_words.specs.Limits.{most_level_rank}
use Rattle.wh_words.specs.Tuples.{TupleData, Tuple, IsTuple, tuple_cmp}
use Rattle.wh_words.specs.Levels.{InLevel, HasMoreThan}
use Rattle.wh_level.specs.PlacedTuples.{HasRoomsFor}
use Rattle.wh_level.specs.GrowingLevels.{GrowingData, HasGoneOver, GoesOn}
use Rattle.wh_workers.specs.Explorations.{IsExpandable}
use Rattle.wh_level.proofs.Growth.{gone_within}
use Rattle.wh_level.proofs.Rooms.{rooms_in_level}
use Rattle.wh_moves.proofs.Walks.{reached_tuple, reached_rank}

-- More tuples of the level than the limit were found.
pub more_than : (root : TupleData) (limit : ℕ) (g : GrowingData) (at : ℕ) → IsDistinct (eq_by_cmp tuple_cmp) g.tuples → limit < length g.tuples → GoesOn root limit g at → HasMoreThan root limit
more_than root limit g at distinct more (inl gone) = record { tuples = g.tuples; distinct = distinct; within = gone_within gone; more = more }
more_than root limit g at distinct more (inr past) = record { tuples = g.tuples; distinct = distinct; within = past.1; more = more }

-- Where not more than the limit were found, the search has gone over so many.
pub gone_over : (root : TupleData) (limit : ℕ) (g : GrowingData) (at : ℕ) → length g.tuples ≤ limit → GoesOn root limit g at → HasGoneOver root g at
gone_over root limit g at few (inl gone) = gone
gone_over root limit g at few (inr past) = absurd (omega (arith, past.0, few))

-- Where the search has come past all tuples that were found, it has gone over just these, which aren't more than the limit.
pub all_over : (root : TupleData) (limit : ℕ) (g : GrowingData) (at : ℕ) → at ≤ limit → length g.tuples ≤ at → GoesOn root limit g at → HasGoneOver root g (length g.tuples) × (length g.tuples ≡ at)
all_over root limit g at few all on =
    let gone : HasGoneOver root g at = gone_over root limit g at (omega (arith, few, all)) on in
    let same : length g.tuples ≡ at = omega (arith, all, gone.within) in
    (subst (HasGoneOver root g) (sym same) gone, same)

-- ---- the tuple that comes next
pub next_expandable : (root : TupleData) (limit : ℕ) (g : GrowingData) (at : ℕ) (image : Tuple) → IsTuple root → root.rank ≤ most_level_rank → HasRoomsFor image root → length g.tuples ≤ limit → GoesOn root limit g at → (t : TupleData) → slice_get g.tuples at ≡ Some t →
    IsExpandable image t
next_expandable root limit g at image is low rooms few on t next =
    let reached : InLevel root t = subst (InLevel root) (get_or_from_slice_get g.tuples at t t next) (gone_within (gone_over root limit g at few on) at t (slice_get_within g.tuples at t next)) in
    record { tuple = reached_tuple is reached.1; rank = omega (arith, low, reached_rank reached.1); rooms = rooms_in_level rooms reached }

-- The row that is made of it has it as its tuple.
pub row_expandable : (g : GrowingData) (at : ℕ) (image : Tuple) (t u : TupleData) → ((t : TupleData) → slice_get g.tuples at ≡ Some t → IsExpandable image t) → slice_get g.tuples at ≡ Some t → u ≡ t → IsExpandable image u × (slice_get g.tuples at ≡ Some u)
row_expandable g at image t u fits next same = (subst (IsExpandable image) (sym same) (fits t next), next ∙ ap Some (sym same))
