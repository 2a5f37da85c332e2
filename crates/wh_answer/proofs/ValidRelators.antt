-- The `relator` lines of an answer are as they are asked to be: each relator leads round in the level, its moves are the identity, and they are few enough that no image gets long.
use Rattle.std.proofs.Common.{◌≡◌, ℕ, zero, suc, ◌+◌, ◌*◌, ◌≤◌, List, [], ◌∷◌, length, map, get_or, take, Some, slice_get, refl, sym, ap, subst, arith}
use Rattle.std.specs.List.{All, sum_by}
use Rattle.std.proofs.lemmas.List.{length-map, get_or-map}
use Rattle.std.proofs.lemmas.List.Elements.{All-nil, All-append, All-map, All-filter}
use Rattle.std.proofs.lemmas.List.Sums.{sum_by_push}
use Rattle.std.proofs.lemmas.Option.{slice_get_within}
use Rattle.wh_words.specs.Limits.{most_stabiliser_rank}
use Rattle.wh_words.specs.Words.{free_reduction}
use Rattle.wh_words.specs.Tuples.{TupleData, IsTuple}
use Rattle.wh_words.specs.Moves.{Kind, Move}
use Rattle.wh_words.specs.Moves.Kind.{swap, invert, cut}
use Rattle.wh_words.specs.Action.{act, act_all, substitute}
use Rattle.wh_words.specs.Composites.{substitute_all, composite_below}
use Rattle.wh_words.specs.Levels.{Reaches, InLevel, IsLevel}
use Rattle.wh_words.specs.Levels.Reaches.{here, step}
use Rattle.wh_words.proofs.FreeReduction.{free_reduction-length}
use Rattle.wh_words.proofs.ImageLetters.{substitute_length}
use Rattle.wh_moves.proofs.Walks.{reached_rank, reached_tuple, in_level_pushed}
use Rattle.wh_peak.specs.Relations.{IsTrivial}
use Rattle.wh_relators.specs.Instances.{keeps, relations, instances_at}
use Rattle.wh_relators.specs.Weights.{kind_weight, weight, IsLight}
use Rattle.wh_relators.specs.Laws.{IsRelation}
use Rattle.wh_relators.proofs.WaysRound.{instances_lead_round}
use Rattle.wh_relators.proofs.FamilyRelations.{families_are_relations}
use Rattle.wh_relators.proofs.InstanceWeights.{relations_are_light}
use Rattle.wh_stab.specs.Presentations.{AreNumbers}
use Rattle.wh_stab.specs.Relators.{Way, ways_from, way_of, IsSpelled, AreRelators}
use Rattle.wh_stab.proofs.Places.{contained}
use Rattle.wh_data.specs.declared.answer.Loop.{Loop}
use Rattle.wh_data.specs.AnswerData.{PartsData}
use Rattle.wh_cert.specs.Demands.{Placed, IsMet, has_steps, leads_back, has_short_images, is_identity, has_numbers, presented_by, tuple_at, StepsIn, loop_at, loop_asked, relator_asked, relators_asked}
use Rattle.wh_cert.specs.Checks.{AreMet}
use Rattle.wh_cert.proofs.Judging.{one_met, both_met}
use Rattle.wh_cert.proofs.FollowedWays.{stands_at}
use Rattle.wh_answer.specs.StabiliserAnswers.{told_loop}
use Rattle.wh_answer.proofs.Inverses.{walk_leads}
use Rattle.wh_answer.proofs.ValidSides.{each_met}

-- ---- how long images get
-- A length after so many cuts, each of which makes it three times as long.
abbrev tripled : ℕ → ℕ → ℕ
tripled zero b = b
tripled (suc c) b = tripled c (3 * b)

tripled_more : (c b : ℕ) → b ≤ tripled c b
tripled_more zero b = omega arith
tripled_more (suc c) b = omega (arith, tripled_more c (3 * b))

substitute_swap : (k : ℕ) (w : List ℕ) → length (substitute (swap k) w) ≡ length w
substitute_swap k [] = refl
substitute_swap k (x ∷ w) = ap suc (substitute_swap k w)

substitute_inversion : (k : ℕ) (w : List ℕ) → length (substitute (invert k) w) ≡ length w
substitute_inversion k [] = refl
substitute_inversion k (x ∷ w) = ap suc (substitute_inversion k w)

-- A word after one move more: how long it is at most, and how many cuts can follow where the moves that follow weigh so much. With these it gets no longer than was allowed before the move.
record IsOneFurther (rest c b : ℕ) (w : List ℕ) : Type 0 where
  cuts : ℕ
  long : ℕ
  light : rest ≤ 17 * cuts + 16
  short : length w ≤ long
  same : tripled cuts long ≡ tripled c b

-- A cut makes a word three times as long at most, and weighs 17. Other moves keep its length.
one_further : (k : Kind) (rest c b : ℕ) (w : List ℕ) → kind_weight k + rest ≤ 17 * c + 16 → length w ≤ b → IsOneFurther rest c b (substitute k w)
one_further (swap k) rest c b w light short = record { cuts = c; long = b; light = omega (arith, light); short = omega (arith, substitute_swap k w, short); same = refl }
one_further (invert k) rest c b w light short = record { cuts = c; long = b; light = omega (arith, light); short = omega (arith, substitute_inversion k w, short); same = refl }
one_further (cut a set) rest zero b w light short = absurd (omega (arith, light))
one_further (cut a set) rest (suc c) b w light short = record { cuts = c; long = 3 * b; light = omega (arith, light); short = omega (arith, substitute_length (cut a set) w, short); same = refl }

substituted_length : (ms : List Move) (c b : ℕ) (w : List ℕ) → weight ms ≤ 17 * c + 16 → length w ≤ b → length (substitute_all ms w) ≤ tripled c b
unfolding weight
substituted_length [] c b w light short = omega (arith, short, tripled_more c b)
substituted_length (m ∷ ms) c b w light short =
    let next : IsOneFurther (weight ms) c b (substitute m.kind w) = one_further m.kind (weight ms) c b w light short in
    subst (λ (x : ℕ). length (substitute_all ms (substitute m.kind w)) ≤ x) next.same (substituted_length ms next.cuts next.long (substitute m.kind w) next.light next.short)

-- Light moves have at most six cuts, so that each image has at most 3^6 letters.
composite_letters : (g : ℕ) (ms : List Move) → IsLight ms → sum_by length (composite_below g ms) ≤ 729 * g
composite_letters zero ms light = omega arith
composite_letters (suc g) ms light =
    omega (
      arith,
      sum_by_push length (composite_below g ms) (free_reduction (substitute_all ms (2 * g ∷ []))),
      free_reduction-length (substitute_all ms (2 * g ∷ [])),
      substituted_length ms 6 1 (2 * g ∷ []) (omega (arith, light)) (omega arith),
      composite_letters g ms light,
    )

weight-take : (k : ℕ) (ms : List Move) → weight (take k ms) ≤ weight ms
unfolding weight
weight-take zero ms = omega arith
weight-take (suc k) [] = omega arith
weight-take (suc k) (m ∷ ms) = omega (arith, weight-take k ms)

short_images : (n : ℕ) (r : Loop) → n ≤ 4 → IsLight r.moves → IsMet (has_short_images n r)
short_images n r low light k l = omega (arith, composite_letters n (take k r.moves) (omega (arith, weight-take k r.moves, light)), low)

-- ---- ways round
-- A walk in a level takes steps from tuple to tuple of it.
steps_in : {root t u : TupleData} {ms : List Move} (ts : List TupleData) → IsLevel root ts → InLevel root t → Reaches t ms u → StepsIn ts t ms
steps_in ts level there here = tt
steps_in {t = t} ts level there (step {m = m} l r) = (l.valid, l.moves, (level.exact (act t m)).1 (in_level_pushed there l), steps_in ts level (in_level_pushed there l) r)

-- The way leads round from the tuple of rank n at its place. Its moves are the identity, and aren't too heavy.
record IsLightWay (n : ℕ) (ts : List TupleData) (w : Way) : Type 0 where
  tuple : TupleData
  at : slice_get ts w.0 ≡ Some tuple
  leads : Reaches tuple w.1 tuple
  trivial : IsTrivial n w.1
  light : IsLight w.1

instances_light : (n v : ℕ) (ts : List TupleData) (t : TupleData) → n ≤ 4 → slice_get ts v ≡ Some t → IsTuple t → t.rank ≡ n → All (λ (ms : List Move). IsLightWay n ts (v, ms)) (instances_at t)
unfolding instances_at
instances_light n v ts t low at is rank k d l = record {
  tuple = t;
  at = at;
  leads = (instances_lead_round t is (omega (arith, rank, low)) k d l).leads;
  trivial = subst (λ (j : ℕ). IsTrivial j (get_or (instances_at t) k d)) rank (All-filter (keeps t) (IsRelation t.rank) (relations t.rank) (families_are_relations t.rank (omega (arith, rank, low))) k d l).trivial;
  light = All-filter (keeps t) IsLight (relations t.rank) (relations_are_light t.rank (omega (arith, rank, low))) k d l;
}

-- What holds of the instances at each tuple, with its place, holds of the ways.
All-ways_from : (P : Way → Type 0) (v : ℕ) (ts : List TupleData) → ((k : ℕ) (t : TupleData) → slice_get ts k ≡ Some t → All (λ (ms : List Move). P (v + k, ms)) (instances_at t)) → All P (ways_from v ts)
All-ways_from P v [] h = All-nil P
All-ways_from P v (t ∷ ts) h =
    let same : v + 0 ≡ v = omega arith in
    All-append P (map (λ (ms : List Move). (v, ms)) (instances_at t)) (ways_from (suc v) ts)
    (All-map P (λ (ms : List Move). (v, ms)) (instances_at t) (subst (λ (j : ℕ). All (λ (ms : List Move). P (j, ms)) (instances_at t)) same (h 0 t refl)))
    (All-ways_from P (suc v) ts (λ k u e. let next : v + suc k ≡ suc v + k = omega arith in subst (λ (j : ℕ). All (λ (ms : List Move). P (j, ms)) (instances_at u)) next (h (suc k) u e)))

-- What holds of all values of a map holds of them at all elements.
All-mapped : {X Y : Type 0} (P : Y → Type 0) (f : X → Y) (xs : List X) → All P (map f xs) → All (λ (x : X). P (f x)) xs
All-mapped P f xs h k d l = subst P (get_or-map f xs k d (f d) l) (h k (f d) (omega (arith, l, length-map xs f)))

module _ (root : TupleData) (p : PartsData) (is : IsTuple root) (low : root.rank ≤ 4) (level : IsLevel root p.vertices) where
  vertex_within : (v : ℕ) (t : TupleData) → slice_get p.vertices v ≡ Some t → InLevel root t
  vertex_within v t at = (level.exact t).0 (contained p.vertices v t at)

  ways_light : All (IsLightWay root.rank p.vertices) (ways_from 0 p.vertices)
  ways_light =
      All-ways_from (IsLightWay root.rank p.vertices) 0 p.vertices (λ k t at.
      let walk : InLevel root t = vertex_within k t at in
      let same : k ≡ 0 + k = omega arith in
      subst (λ (v : ℕ). All (λ (ms : List Move). IsLightWay root.rank p.vertices (v, ms)) (instances_at t)) same (instances_light root.rank k p.vertices t low at (reached_tuple is walk.1) (reached_rank walk.1)))

  loop_met : (place : ℕ) (r : Loop) → IsLightWay root.rank p.vertices (r.at, r.moves) → IsSpelled (presented_by p p.generators) (told_loop r) → AreMet (loop_asked place root.rank p r)
  loop_met place r way own =
      both_met ((place, has_steps p r) ∷ []) ((place, leads_back p r) ∷ rest) (one_met place (has_steps p r) steps)
      (both_met ((place, leads_back p r) ∷ []) rest (one_met place (leads_back p r) back)
      (both_met ((place, has_short_images root.rank r) ∷ []) last (one_met place (has_short_images root.rank r) (short_images root.rank r low way.light))
      (both_met ((place, is_identity root.rank r) ∷ []) ((place, has_numbers p r) ∷ []) (one_met place (is_identity root.rank r) way.trivial) (one_met place (has_numbers p r) numbers))))
    where
      last : List Placed
      last = (place, is_identity root.rank r) ∷ (place, has_numbers p r) ∷ []

      rest : List Placed
      rest = (place, has_short_images root.rank r) ∷ last

      stands : tuple_at p.vertices r.at ≡ way.tuple
      stands = stands_at p.vertices r.at way.tuple way.at

      steps : IsMet (has_steps p r)
      steps = (
        slice_get_within p.vertices r.at way.tuple way.at,
        subst (λ (t : TupleData). StepsIn p.vertices t r.moves) (sym stands) (steps_in p.vertices level (vertex_within r.at way.tuple way.at) way.leads),
      )

      back : IsMet (leads_back p r)
      back = subst (λ (t : TupleData). act_all t r.moves ≡ t) (sym stands) (walk_leads way.tuple way.tuple r.moves way.leads)

      numbers : IsMet (has_numbers p r)
      numbers = subst (λ (t : TupleData). AreNumbers (presented_by p p.generators) t r.moves r.word) (sym (stands_at p.vertices r.at own.tuple own.starts)) own.numbers

pub relators_met : (root : TupleData) (p : PartsData) (place : ℕ) → IsTuple root → root.rank ≤ most_stabiliser_rank → IsLevel root p.vertices → AreRelators (presented_by p p.generators) (map told_loop p.relators) →
    AreMet (relators_asked place root.rank p)
relators_met root p place is low level are = each_met (relator_asked place root.rank p) (length p.relators) (λ k l. loop_met root p is low level (place + k) (loop_at p.relators k) (ways k none l) (spelled k none l))
  where
    none : Loop
    none = record { at = 0; moves = []; word = [] }

    ways : All (λ (r : Loop). IsLightWay root.rank p.vertices (r.at, r.moves)) p.relators
    ways =
        All-mapped (λ r. IsLightWay root.rank p.vertices (way_of r)) told_loop p.relators
        (All-mapped (IsLightWay root.rank p.vertices) way_of (map told_loop p.relators) (subst (All (IsLightWay root.rank p.vertices)) (sym are.ways) (ways_light root p is low level)))

    spelled : All (λ (r : Loop). IsSpelled (presented_by p p.generators) (told_loop r)) p.relators
    spelled = All-mapped (IsSpelled (presented_by p p.generators)) told_loop p.relators are.spelled
