-- What is counted of a tuple to tell which cuts keep its length.
use Rattle.std.specs.Prelude.{◌≡◌, ◌*◌, ◌^◌, ◌≤◌, ◌==◌, Bool, slice_index_or}
use Rattle.wh_words.specs.Tuples.{TupleData, IsTuple}
use Rattle.wh_words.specs.Edges.{deg}
use Rattle.wh_words.specs.Limits.{most_stabiliser_rank}
use Rattle.wh_graph.specs.CapacityTables.{HasTable, tuple_capacity}
use Rattle.wh_relators.specs.declared.capacities.Capacities.{Capacities}
use Rattle.wh_relators.specs.Cuts.{Cut}

-- The capacities of all sets of letters of a tuple's rank, and the degrees of its letters.
pub record AreCapacities (t : TupleData) (c : Capacities) : Type 0 where
  pub tuple : IsTuple t
  pub rank : c.rank ≡ t.rank
  pub few : t.rank ≤ most_stabiliser_rank
  pub sets : HasTable (tuple_capacity t) (2 ^ (2 * t.rank)) c.sets
  pub degrees : HasTable (λ a. deg a t) (2 * t.rank) c.degrees

-- Whether the capacity of the set of a cut is the degree of its multiplier.
abbrev pub told : Capacities → Cut → Bool
told c x = slice_index_or c.sets x.set 0 == slice_index_or c.degrees x.mult 0
