-- What flat ends tell of all automorphisms: for the laws on valid certificates and on what is told.
use Rattle.std.proofs.Common.{◌≡◌, ◌≢◌, ◌≤◌, List, sym, ◌∙◌}
use Rattle.wh_words.specs.Tuples.{TupleData, IsTuple, tuple_length}
use Rattle.wh_words.specs.Moves.{Move}
use Rattle.wh_words.specs.Action.{act_all}
use Rattle.wh_words.specs.Levels.{InLevel}
use Rattle.wh_moves.proofs.Walks.{reached_length}
use Rattle.wh_peak.specs.Equivalence.{AreMovesOfRank, AreEquivalent}
use Rattle.wh_peak.specs.Stabilisers.{LeadsToFlat}
use Rattle.wh_peak.proofs.ShortestTuples.{equivalence_symmetric, equivalence_transitive, flat_shortest, flat_tuple, flat_ends_tell}
use Rattle.wh_nielsen.specs.Automorphisms.{IsCarried}
use Rattle.wh_nielsen.proofs.Generation.{composites_are, act_as_composites, equivalent_is_carried}
use Rattle.wh_answer.specs.Certified.{IsShortestOf, IsCarriedBy}

equivalent : (t u : TupleData) (ms : List Move) → LeadsToFlat t ms u → AreEquivalent t u
equivalent t u ms to = record { moves = ms; of_rank = to.of_rank; leads = to.leads }

-- An end that no cut shortens is shortest.
pub shortest_of : (t u : TupleData) (ms : List Move) → IsTuple t → t.rank ≤ 26 → LeadsToFlat t ms u → IsShortestOf t u
shortest_of t u ms is low to w carried =
    let there = equivalent t u ms to in
    flat_shortest u (flat_tuple t u is there to.flat) to.flat w (equivalence_transitive u t w (equivalence_symmetric t u is there) ((equivalent_is_carried t w is low).1 carried))

-- Moves that carry are an automorphism that does.
pub carried_by : (s t : TupleData) (ms : List Move) → IsTuple s → AreMovesOfRank s.rank ms → act_all s ms ≡ t → IsCarriedBy s t ms
carried_by s t ms is of_rank e = record { moves = e; automorphism = composites_are s.rank ms of_rank; carries = sym (act_as_composites s ms is of_rank) ∙ e }

module _ (s t u v : TupleData) (ms ns : List Move) (is : IsTuple s) (other : IsTuple t) (same : s.rank ≡ t.rank) (low : s.rank ≤ 26) (first : LeadsToFlat s ms u) (second : LeadsToFlat t ns v) where
  -- Where the end of the second tuple isn't in the level of the end of the first, no automorphism takes the first to the second.
  pub none_off_level : ¬ (InLevel u v) → ¬ (IsCarried s t)
  none_off_level off carried =
      off ((flat_ends_tell s t u v is other same low (equivalent s u ms first) (equivalent t v ns second) first.flat second.flat).0 ((equivalent_is_carried s t is low).1 carried))

  -- The same where the ends have different lengths.
  pub none_of_length : tuple_length u ≢ tuple_length v → ¬ (IsCarried s t)
  none_of_length differ = none_off_level (λ walk. differ (sym (reached_length walk.1)))
