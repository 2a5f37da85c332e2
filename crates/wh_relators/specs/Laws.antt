-- What is known of the relations, as statements that contracts name, after McCool 1974 and 1975.
use Rattle.std.specs.Prelude.{◌≡◌, ◌≢◌, ℕ, ◌≤◌, List, []}
use Rattle.std.specs.List.{All}
use Rattle.wh_words.specs.Limits.{most_rank, most_stabiliser_rank}
use Rattle.wh_words.specs.Tuples.{TupleData, IsTuple}
use Rattle.wh_words.specs.Moves.{Move, IsIdentityCut}
use Rattle.wh_words.specs.Levels.{Reaches}
use Rattle.wh_peak.specs.Equivalence.{AreMovesOfRank}
use Rattle.wh_peak.specs.Relations.{IsTrivial}
use Rattle.wh_relators.specs.Instances.{relations, instances_at}
use Rattle.wh_relators.specs.Choices.{all_listed}
use Rattle.wh_relators.specs.Weights.{IsLight}

-- A list of moves of rank n whose composite is the identity, with a move and without identity cuts.
pub record IsRelation (n : ℕ) (ms : List Move) : Type 0 where
  pub trivial : IsTrivial n ms
  pub of_rank : AreMovesOfRank n ms
  pub moves : All (λ m. ¬ (IsIdentityCut m.kind)) ms
  pub some : ms ≢ []

-- The families are relations: the composite of each list is the identity.
abbrev pub FamiliesAreRelations : Type 0
FamiliesAreRelations = (n : ℕ) → n ≤ most_rank → All (IsRelation n) (relations n)

-- An instance is a way round in the level, from the tuple back to it.
pub record IsWayRound (t : TupleData) (ms : List Move) : Type 0 where
  pub leads : Reaches t ms t
  pub some : ms ≢ []

-- The instances at a tuple are ways round.
abbrev pub InstancesLeadRound : Type 0
InstancesLeadRound = (t : TupleData) → IsTuple t → t.rank ≤ most_rank → All (IsWayRound t) (instances_at t)

-- The instances are the lists of those pairs that pass the test of their family, whose one or two cuts keep the length, and in whose list no identity cut stands.
abbrev pub SingleCutsTellInstances : Type 0
SingleCutsTellInstances = (t : TupleData) → IsTuple t → t.rank ≤ most_rank → instances_at t ≡ all_listed t

-- The lists of the families in ranks of stabilisers aren't too heavy.
abbrev pub RelationsAreLight : Type 0
RelationsAreLight = (n : ℕ) → n ≤ most_stabiliser_rank → All IsLight (relations n)
