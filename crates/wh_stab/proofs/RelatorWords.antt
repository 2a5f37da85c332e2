-- Each relator of a stabiliser is a relation: the moves of its way and its word are the identity. There is one list of relators.
use Rattle.std.proofs.Common.{◌≡◌, ℕ, suc, ◌+◌, ◌≤◌, List, [], ◌∷◌, map, Some, slice_get, refl, sym, ap, ap₂, ◌∙◌, subst, arith}
use Rattle.std.specs.List.{All}
use Rattle.std.proofs.lemmas.List.Elements.{All-nil, All-head, All-tail, All-cons, All-append, All-map, All-filter}
use Rattle.std.proofs.lemmas.Option.{same_Some}
use Rattle.wh_words.specs.Tuples.{TupleData, IsTuple}
use Rattle.wh_words.specs.Moves.{Move}
use Rattle.wh_words.specs.Levels.{Reaches, InLevel}
use Rattle.wh_moves.proofs.Walks.{reached_rank, reached_tuple}
use Rattle.wh_peak.specs.Relations.{IsTrivial}
use Rattle.wh_peak.specs.Stabilisers.{LeadsToFlat}
use Rattle.wh_peak.proofs.MovesOfRank.{act_all-rank}
use Rattle.wh_peak.proofs.ShortestTuples.{flat_tuple}
use Rattle.wh_relators.specs.Instances.{relations, keeps, instances_at}
use Rattle.wh_relators.specs.Laws.{IsRelation, IsWayRound}
use Rattle.wh_relators.proofs.Lists.{All-both}
use Rattle.wh_relators.proofs.FamilyRelations.{families_are_relations}
use Rattle.wh_relators.proofs.WaysRound.{instances_lead_round}
use Rattle.wh_stab.specs.Presentations.{PresentationData, IsPresented, AreNumbers}
use Rattle.wh_stab.specs.Relators.{Way, ways_from, RelatorData, way_of, IsSpelled}
use Rattle.wh_stab.specs.Laws.{IsRelator, RelatorsAreRelations, RelatorsAreUnique}
use Rattle.wh_stab.proofs.Places.{contained}
use Rattle.wh_stab.proofs.Words.{tell_relators, numbers_unique}

-- The way leads round from the tuple at its place, and its moves are the identity of rank n.
record IsTrueWay (ts : List TupleData) (n : ℕ) (w : Way) : Type 0 where
  tuple : TupleData
  at : slice_get ts w.0 ≡ Some tuple
  leads : Reaches tuple w.1 tuple
  trivial : IsTrivial n w.1

-- The instances at a tuple are the identity.
instances_trivial : (t : TupleData) → t.rank ≤ 26 → All (IsRelation t.rank) (instances_at t)
unfolding instances_at
instances_trivial t low = All-filter (keeps t) (IsRelation t.rank) (relations t.rank) (families_are_relations t.rank low)

-- A tuple of rank n that stands at a place.
record StandsAt (ts : List TupleData) (n v : ℕ) (t : TupleData) : Type 0 where
  at : slice_get ts v ≡ Some t
  is : IsTuple t
  rank : t.rank ≡ n

module _ (all : List TupleData) (n : ℕ) (low : n ≤ 26) where
  ways_at : (v : ℕ) (t : TupleData) → StandsAt all n v t → All (IsTrueWay all n) (map (λ (ms : List Move). (v, ms)) (instances_at t))
  ways_at v t stands =
      All-map (IsTrueWay all n) (λ (ms : List Move). (v, ms)) (instances_at t)
      (All-both (IsRelation t.rank) (IsWayRound t) (λ (ms : List Move). IsTrueWay all n (v, ms))
      (λ ms relation round. record { tuple = t; at = stands.at; leads = round.leads; trivial = subst (λ (k : ℕ). IsTrivial k ms) stands.rank relation.trivial })
      (instances_at t) (instances_trivial t (omega (arith, stands.rank, low))) (instances_lead_round t stands.is (omega (arith, stands.rank, low))))

  ways_true : (v : ℕ) (ts : List TupleData) → ((k : ℕ) (t : TupleData) → slice_get ts k ≡ Some t → StandsAt all n (v + k) t) → All (IsTrueWay all n) (ways_from v ts)
  ways_true v [] stand = All-nil (IsTrueWay all n)
  ways_true v (t ∷ ts) stand =
      let same : v + 0 ≡ v = omega arith in
      All-append (IsTrueWay all n) (map (λ (ms : List Move). (v, ms)) (instances_at t)) (ways_from (suc v) ts) (ways_at v t (subst (λ (k : ℕ). StandsAt all n k t) same (stand 0 t refl)))
      (ways_true (suc v) ts (λ k u e. let next : v + suc k ≡ suc v + k = omega arith in subst (λ (j : ℕ). StandsAt all n j u) next (stand (suc k) u e)))

module _ (t root : TupleData) (p : PresentationData) (is : IsPresented t root p) where
  relator_true : (r : RelatorData) → IsTrueWay p.vertices t.rank (way_of r) → IsSpelled p r → IsRelator t.rank p r
  relator_true r way own =
      let tuple : own.tuple ≡ way.tuple = same_Some own.tuple way.tuple (sym own.starts ∙ way.at) in
      let numbers : AreNumbers p way.tuple r.moves r.word = subst (λ (u : TupleData). AreNumbers p u r.moves r.word) tuple own.numbers in
      let within : InLevel root way.tuple = (is.level.exact way.tuple).0 (contained p.vertices r.at way.tuple way.at) in
      let told = tell_relators t root way.tuple p r.moves r.word is within way.leads numbers way.trivial in
      record { moves = way.trivial; numbers = told.0; word = told.1 }

  listed_true : (rs : List RelatorData) → All (IsTrueWay p.vertices t.rank) (map way_of rs) → All (IsSpelled p) rs → All (IsRelator t.rank p) rs
  listed_true [] ways own = All-nil (IsRelator t.rank p)
  listed_true (r ∷ rs) ways own =
      All-cons (IsRelator t.rank p) r rs (relator_true r (All-head (IsTrueWay p.vertices t.rank) (way_of r) (map way_of rs) ways) (All-head (IsSpelled p) r rs own))
      (listed_true rs (All-tail (IsTrueWay p.vertices t.rank) (way_of r) (map way_of rs) ways) (All-tail (IsSpelled p) r rs own))

  -- The tuples of the level are of the rank of the tuple.
  vertex_stands : (v : ℕ) (u : TupleData) → slice_get p.vertices v ≡ Some u → StandsAt p.vertices t.rank v u
  vertex_stands v u e =
      let walk : InLevel root u = (is.level.exact u).0 (contained p.vertices v u e) in
      let l : LeadsToFlat t p.trace root = is.leads in
      let root_is : IsTuple root = flat_tuple t root is.tuple (record { moves = p.trace; of_rank = l.of_rank; leads = l.leads }) l.flat in
      record {
        at = e;
        is = reached_tuple root_is walk.1;
        rank = reached_rank walk.1 ∙ ap (λ (s : TupleData). s.rank) (sym l.leads) ∙ act_all-rank t p.trace;
      }

pub relators_are_relations : RelatorsAreRelations
relators_are_relations t root p rs is are =
    listed_true t root p is rs
    (subst (All (IsTrueWay p.vertices t.rank)) (sym are.ways) (ways_true p.vertices t.rank is.rank 0 p.vertices (λ k u e. subst (λ (j : ℕ). StandsAt p.vertices t.rank j u) (sym (plus k)) (vertex_stands t root p is k u e)))) are.spelled
  where
    plus : (k : ℕ) → 0 + k ≡ k
    plus k = omega arith

-- ---- one list
one_word : (t root : TupleData) (p : PresentationData) (r s : RelatorData) → IsPresented t root p → way_of r ≡ way_of s → IsSpelled p r → IsSpelled p s → r.word ≡ s.word
one_word t root p r s is way a b =
    let tuple : b.tuple ≡ a.tuple = same_Some b.tuple a.tuple (sym b.starts ∙ ap (λ (w : Way). slice_get p.vertices w.0) (sym way) ∙ a.starts) in
    let other : AreNumbers p a.tuple r.moves s.word =
    subst (λ (u : TupleData). AreNumbers p u r.moves s.word) tuple (subst (λ (ms : List Move). AreNumbers p b.tuple ms s.word) (ap (λ (w : Way). w.1) (sym way)) b.numbers) in
    numbers_unique t root a.tuple p r.moves r.word s.word is a.numbers other

one_list : (t root : TupleData) (p : PresentationData) (rs ss : List RelatorData) → IsPresented t root p → map way_of rs ≡ map way_of ss → All (IsSpelled p) rs → All (IsSpelled p) ss → rs ≡ ss
one_list t root p [] [] is ways a b = refl
one_list t root p [] (s ∷ ss) is ways a b = absurd (cc)
one_list t root p (r ∷ rs) [] is ways a b = absurd (cc)
one_list t root p (r ∷ rs) (s ∷ ss) is ways a b =
    let way : way_of r ≡ way_of s = (cc) in
    let rest : map way_of rs ≡ map way_of ss = (cc) in
    let word : r.word ≡ s.word = one_word t root p r s is way (All-head (IsSpelled p) r rs a) (All-head (IsSpelled p) s ss b) in
    let same : r ≡ s = ap₂ (λ (w : Way) (ks : List ℕ). record { at = w.0; moves = w.1; word = ks }) way word in
    ap₂ (λ (x : RelatorData) (xs : List RelatorData). x ∷ xs) same (one_list t root p rs ss is rest (All-tail (IsSpelled p) r rs a) (All-tail (IsSpelled p) s ss b))

pub relators_unique : RelatorsAreUnique
relators_unique t root p rs ss is a b = one_list t root p rs ss is (a.ways ∙ sym b.ways) a.spelled b.spelled
