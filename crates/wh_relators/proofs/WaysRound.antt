-- The instances of relations are ways round.
use Rattle.std.proofs.Common.{◌≡◌, ℕ, ◌==◌, true, List, [], ◌∷◌, refl, sym, subst, ◌∙◌}
use Rattle.std.proofs.lemmas.Bool.{eqb-true}
use Rattle.std.proofs.lemmas.List.Elements.{All-head, All-tail, All-filter, filter_passes}
use Rattle.std.specs.List.{All, filter}
use Rattle.wh_words.specs.Tuples.{TupleData, IsTuple, tuple_length}
use Rattle.wh_words.specs.Moves.{Move, IsIdentityCut}
use Rattle.wh_words.specs.Action.{act, act_all}
use Rattle.wh_words.specs.Levels.{Reaches}
use Rattle.wh_words.specs.Levels.Reaches.{here, step}
use Rattle.wh_peak.specs.Equivalence.{IsMoveOfRank, AreMovesOfRank}
use Rattle.wh_peak.proofs.MovesOfRank.{none_of_rank}
use Rattle.wh_peak.proofs.AlikeMoves.{one_composite_acts_alike}
use Rattle.wh_relators.specs.Instances.{stays, keeps, relations, instances_at}
use Rattle.wh_relators.specs.Laws.{IsRelation, IsWayRound, InstancesLeadRound}
use Rattle.wh_relators.proofs.Lists.{and_first, and_second, All-both}
use Rattle.wh_relators.proofs.FamilyRelations.{relations-are}

walk : (l : ℕ) (t : TupleData) (ms : List Move) → tuple_length t ≡ l → AreMovesOfRank t.rank ms → All (λ m. ¬ (IsIdentityCut m.kind)) ms → stays l t ms ≡ true → Reaches t ms (act_all t ms)
unfolding stays
walk l t [] e r p h = here
walk l t (m ∷ ms) e r p h =
    let valid : IsMoveOfRank t.rank m = All-head (IsMoveOfRank t.rank) m ms r in
    let kept : tuple_length (act t m) ≡ l = eqb-true (tuple_length (act t m)) l (and_first (tuple_length (act t m) == l) (stays l (act t m) ms) h) in
    step (record { valid = valid.valid; rank = valid.rank; kept = kept ∙ sym e; moves = All-head (λ k. ¬ (IsIdentityCut k.kind)) m ms p })
    (walk l (act t m) ms kept (All-tail (IsMoveOfRank t.rank) m ms r) (All-tail (λ k. ¬ (IsIdentityCut k.kind)) m ms p) (and_second (tuple_length (act t m) == l) (stays l (act t m) ms) h))

way_round : (t : TupleData) → IsTuple t → (ms : List Move) → IsRelation t.rank ms → keeps t ms ≡ true → IsWayRound t ms
way_round t is ms r h = record {
  leads = subst (Reaches t ms) (one_composite_acts_alike t ms [] is r.of_rank (none_of_rank t.rank) r.trivial) (walk (tuple_length t) t ms refl r.of_rank r.moves h);
  some = r.some;
}

pub instances_lead_round : InstancesLeadRound
unfolding instances_at
instances_lead_round t is few =
    All-both (IsRelation t.rank) (λ ms. keeps t ms ≡ true) (IsWayRound t) (way_round t is) (filter (keeps t) (relations t.rank))
    (All-filter (keeps t) (IsRelation t.rank) (relations t.rank) (relations-are t.rank few)) (filter_passes (keeps t) (relations t.rank))
