-- The tuples of a level, and the ways round from them.
use Rattle.std.proofs.Common.{◌≡◌, ℕ, ◌+◌, [], ◌<◌, ◌≤◌, List, length, get_or, map, Some, slice_get, ap, subst, arith}
use Rattle.std.proofs.lemmas.List.{length-map}
use Rattle.std.proofs.lemmas.List.Elements.{All-weaker}
use Rattle.std.specs.List.{All}
use Rattle.wh_words.specs.Tuples.{TupleData, Tuple, IsTuple}
use Rattle.wh_words.specs.Moves.{Move}
use Rattle.wh_moves.proofs.Walks.{reached_rank, reached_tuple}
use Rattle.wh_level.specs.Trees.{LevelData, IsClosedLevel}
use Rattle.wh_level.proofs.LevelEdges.{stands_in_level, tuple_at}
use Rattle.wh_relators.specs.Instances.{instances_at}
use Rattle.wh_relators.specs.Laws.{IsWayRound}
use Rattle.wh_relators.proofs.WaysRound.{instances_lead_round}
use Rattle.wh_stab.specs.declared.stab.Relator.{Relator}
use Rattle.wh_stab.specs.Presentations.{Start}
use Rattle.wh_stab.specs.Numberings.{IsWayFrom, presentation}
use Rattle.wh_stab.specs.Relators.{relator_of, AreFirstRelators, AddsRelators}
use Rattle.wh_stab.proofs.RelatorLists.{vertex_added}

module _ (l : LevelData) (v : ℕ) (t : TupleData) (closed : IsClosedLevel l) (at : slice_get l.tuples v ≡ Some t) where
  pub member_rank : t.rank ≡ l.root.rank
  member_rank = reached_rank (stands_in_level l v t closed at).1

  pub member_tuple : IsTuple l.root → IsTuple t
  member_tuple is = reached_tuple is (stands_in_level l v t closed at).1

  -- The instances at a tuple of the level are ways from its place.
  pub instance_ways : IsTuple l.root → l.root.rank ≤ 4 → All (IsWayFrom l v) (instances_at t)
  instance_ways is low =
      All-weaker (IsWayRound t) (IsWayFrom l v) (λ ms way. record { tuple = t; end = t; starts = at; walk = way.leads }) (instances_at t) (instances_lead_round t (member_tuple is) (omega (arith, low, member_rank)))

-- The tuple at a place of a level, as it is read there.
pub level_item : (l : LevelData) (all ts : List Tuple) (v : ℕ) (u : Tuple) → map (λ (t : Tuple). t.plain) all ≡ l.tuples → v < length all → map (λ (t : Tuple). t.plain) ts ≡ l.tuples → u ≡ get_or ts v u → slice_get l.tuples v ≡ Some u.plain
level_item l all ts v u whole within same read = tuple_at l ts v u same (omega (arith, within, length-map all (λ (t : Tuple). t.plain), ap length whole)) read

-- The relators of one tuple more.
pub vertex_pushed : (l : LevelData) (gs : List Start) (all ts : List Tuple) (v : ℕ) (u : Tuple) (ways : List (List Move)) (old new : List Relator) → map (λ (t : Tuple). t.plain) all ≡ l.tuples → v < length all →
    map (λ (t : Tuple). t.plain) ts ≡ l.tuples → u ≡ get_or ts v u → ways ≡ instances_at u.plain → AddsRelators (presentation [] l gs) v ways (map relator_of old) (map relator_of new) →
    AreFirstRelators (presentation [] l gs) v (map relator_of old) → AreFirstRelators (presentation [] l gs) (v + 1) (map relator_of new)
vertex_pushed l gs all ts v u ways old new whole within same read are added first =
    vertex_added (presentation [] l gs) v u.plain (map relator_of old) (map relator_of new) (level_item l all ts v u whole within same read)
    (subst (λ (ws : List (List Move)). AddsRelators (presentation [] l gs) v ws (map relator_of old) (map relator_of new)) are added) first
