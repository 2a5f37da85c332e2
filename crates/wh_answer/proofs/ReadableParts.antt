-- What presents a stabiliser in an answer is of one rank, and its parts aren't too many.
use Rattle.std.proofs.Common.{◌≡◌, ◌≢◌, ◌↔◌, ℕ, suc, ◌+◌, ◌<◌, ◌≤◌, nat_lt, cond, Bool, true, List, [], ◌∷◌, length, get_or, map, Option, None, Some, slice_get, Contains, refl, sym, ap, ◌∙◌, subst, arith}
use Rattle.std.specs.Prelude.{IfSome}
use Rattle.std.specs.List.{All, position, position_or_len}
use Rattle.std.specs.Option.{unwrap_or}
use Rattle.std.specs.Ordering.{is_eq}
use Rattle.std.proofs.lemmas.List.{length-map}
use Rattle.std.proofs.lemmas.List.Recursion.{is_position_or_len}
use Rattle.std.proofs.lemmas.List.Elements.{All-nil, All-cons, All-head, All-tail, All-append, All-map, All-filter, All-weaker, Contains-get_or}
use Rattle.std.proofs.lemmas.Option.{slice_get_within, slice_get-get_or, get_or_from_slice_get}
use Rattle.wh_words.specs.Tuples.{TupleData, tuple_cmp}
use Rattle.wh_words.specs.Moves.{Move}
use Rattle.wh_words.specs.Levels.{IsLevelMove, IsLevel}
use Rattle.wh_words.specs.Levels.Reaches.{here}
use Rattle.wh_level.specs.Trees.{Parents, LevelData}
use Rattle.wh_relators.specs.Instances.{relations, keeps, instances_at}
use Rattle.wh_relators.specs.Laws.{IsWayRound}
use Rattle.wh_relators.specs.Weights.{IsLight}
use Rattle.wh_relators.proofs.Lists.{All-both}
use Rattle.wh_relators.proofs.WaysRound.{instances_lead_round}
use Rattle.wh_relators.proofs.InstanceWeights.{relations-light}
use Rattle.wh_stab.specs.SpanningTrees.{IsLink, place_of}
use Rattle.wh_stab.specs.Presentations.{Start, PresentationData, IsOffTree, IsNumber, AreNumbers}
use Rattle.wh_stab.specs.Presentations.AreNumbers.{done, on_tree, off_tree}
use Rattle.wh_stab.specs.Relators.{Way, ways_from, way_of, IsSpelled, relator_count}
use Rattle.wh_stab.specs.Stabilisers.{HasFewEdges}
use Rattle.wh_stab.proofs.TuplePaths.{place_is}
use Rattle.wh_stab.proofs.Places.{place_contained}
use Rattle.wh_stab.proofs.Words.{numbers_are}
use Rattle.wh_fields.specs.MoveFields.{IsMoveOf}
use Rattle.wh_fields.specs.TupleFields.{IsTupleOf}
use Rattle.wh_fields.specs.Laws.{IsCounting}
use Rattle.wh_data.specs.declared.answer.Loop.{Loop}
use Rattle.wh_data.specs.declared.answer.Parts.{Parts}
use Rattle.wh_data.specs.RootPlaces.{root_place}
use Rattle.wh_data.specs.AnswerData.{parts_of}
use Rattle.wh_data.specs.AnswerParts.{IsStartOf, IsLoopOf, ArePartsOf as ArePartsOfRank}
use Rattle.wh_answer.specs.StabiliserAnswers.{told_loop, presentation_by, HasLevel, ArePartsOf}
use Rattle.wh_answer.proofs.OwnParts.{trace_end, walk_moves}
use Rattle.wh_answer.proofs.LevelTuples.{level_tuples, level_some}
use Rattle.wh_answer.proofs.LevelSizes.{few_generators}
use Rattle.wh_answer.proofs.TextLengths.{IsShort}

-- ---- the place of the root
first_place : (end : TupleData) (ts : List TupleData) → place_of ts end ≡ position_or_len (λ t. is_eq (tuple_cmp t end)) ts
first_place end ts = is_position_or_len (λ us. place_of us end) (λ t. is_eq (tuple_cmp t end)) refl (λ t us. ap (λ k. cond (is_eq (tuple_cmp t end)) 0 k) (next (place_of us end))) ts
  where
    next : (k : ℕ) → suc k ≡ 1 + k
    next k = omega arith

place_found : (p : TupleData → Bool) (ts : List TupleData) (v : ℕ) → position_or_len p ts ≡ v → v < length ts → unwrap_or (position p ts) 0 ≡ v
place_found p ts v e l = ap (λ b. unwrap_or (cond b (Some (position_or_len p ts)) None) 0) (below (position_or_len p ts) (length ts) (omega (arith, e, l))) ∙ e
  where
    below : (k n : ℕ) → k < n → nat_lt k n ≡ true
    below k n h = search arith

-- The root stands at its place.
root_there : (root : TupleData) (ts : List TupleData) (v : ℕ) → IsLevel root ts → slice_get ts v ≡ Some root → root_place root ts ≡ v
root_there root ts v level at =
    place_found (λ t. is_eq (tuple_cmp t root)) ts v (sym (first_place root ts) ∙ place_is ts v root level.sorted at) (slice_get_within ts v root at)

-- ---- relators
-- The moves of a way are some of rank n that aren't too heavy.
pub record IsGoodWay (n : ℕ) (w : Way) : Type 0 where
  pub moves : All (IsMoveOf n) w.1
  pub some : w.1 ≢ []
  pub light : IsLight w.1

-- The number of moves is at least that of the numbers of a way.
pub numbers_length : {q : PresentationData} {t : TupleData} {ms : List Move} {ks : List ℕ} → AreNumbers q t ms ks → length ks ≤ length ms
numbers_length done = omega arith
numbers_length (on_tree e d) = omega (arith, numbers_length d)
numbers_length (off_tree at gen d) = omega (arith, numbers_length d)

module _ (n count : ℕ) (low : n ≤ 4) where
  instances_good : (v : ℕ) (t : TupleData) → IsTupleOf n count t → All (IsGoodWay n) (map (λ (ms : List Move). (v, ms)) (instances_at t))
  unfolding instances_at
  instances_good v t is =
      All-map (IsGoodWay n) (λ (ms : List Move). (v, ms)) (instances_at t)
      (All-both (IsWayRound t) IsLight (λ (ms : List Move). IsGoodWay n (v, ms))
      (λ ms round light. record { moves = walk_moves n t t ms is.rank round.leads; some = round.some; light = light })
      (instances_at t) (instances_lead_round t is.tuple (omega (arith, is.rank, low))) (All-filter (keeps t) IsLight (relations t.rank) (relations-light t.rank (omega (arith, is.rank, low)))))

  ways_good : (v : ℕ) (ts : List TupleData) → All (IsTupleOf n count) ts → All (IsGoodWay n) (ways_from v ts)
  ways_good v [] are = All-nil (IsGoodWay n)
  ways_good v (t ∷ ts) are =
      All-append (IsGoodWay n) (map (λ (ms : List Move). (v, ms)) (instances_at t)) (ways_from (suc v) ts) (instances_good v t (All-head (IsTupleOf n count) t ts are)) (ways_good (suc v) ts (All-tail (IsTupleOf n count) t ts are))

-- ---- all parts
-- The place of one of 131,072 vertices, and a move of rank n.
abbrev pub IsPlaced : ℕ → Start → Type 0
IsPlaced n s = (s.0 < 131072) × IsMoveOf n s.1

told_start : (n : ℕ) (s : Start) → IsPlaced n s → IsStartOf n s
told_start n s is = ((omega arith, omega (arith, is.0)), is.1)

told_entry : (n : ℕ) (e : Option Start) → IfSome e (IsPlaced n) → IfSome e (IsStartOf n)
told_entry n None is = tt
told_entry n (Some s) is = told_start n s is

-- A relator whose moves are of rank n and not too heavy, with no more numbers than moves, none of them too large.
pub record IsGoodLoop (n count : ℕ) (r : Loop) : Type 0 where
  pub vertex : r.at < count
  pub way : IsGoodWay n (r.at, r.moves)
  pub few : length r.word ≤ length r.moves
  pub numbers : All (λ k. (0 < k) × (k ≤ 65536)) r.word

module _ (limit n count : ℕ) (low : n ≤ 4) (few : limit ≤ 131072) (t : TupleData) (is : IsTupleOf n count t) (trace : List Move) (l : LevelData) (p : Parts) (has : HasLevel limit t trace l) (few_edges : HasFewEdges l 65536)
    (are : ArePartsOf t trace l p) where
  abbrev q : PresentationData
  q = presentation_by trace p

  pub root_of : IsTupleOf n count l.root
  root_of = trace_end n count t l.root trace is (omega (arith, low)) has.leads

  pub vertices_are : All (λ u. IsTupleOf n count u × IsShort u) q.vertices
  vertices_are = level_tuples n count l.root root_of has.low q.vertices are.presented.level

  tuples_are : All (IsTupleOf n count) q.vertices
  tuples_are = All-weaker (λ u. IsTupleOf n count u × IsShort u) (IsTupleOf n count) (λ u both. both.0) q.vertices vertices_are

  tuple_of : (v : ℕ) (u : TupleData) → slice_get q.vertices v ≡ Some u → IsTupleOf n count u
  tuple_of v u at = subst (IsTupleOf n count) (get_or_from_slice_get q.vertices v u u at) (tuples_are v u (slice_get_within q.vertices v u at))

  pub few_vertices : length q.vertices ≤ 131072
  few_vertices = omega (arith, ap length are.vertices, has.few, few)

  -- A vertex and a level move of it.
  placed : (v : ℕ) (u : TupleData) (m : Move) → slice_get q.vertices v ≡ Some u → IsLevelMove u m → IsPlaced n (v, m)
  placed v u m at moves = (omega (arith, slice_get_within q.vertices v u at, few_vertices), (moves.valid, moves.rank ∙ (tuple_of v u at).rank))

  root_is : (v : ℕ) → (slice_get p.tree v ≡ Some None) ↔ (v ≡ root_place l.root q.vertices)
  root_is v = (
    λ e. sym (root_there l.root q.vertices v are.presented.level (are.presented.tree.at_root v e)),
    λ e.
        let c : (k : ℕ) × (slice_get q.vertices k ≡ Some l.root) = place_contained q.vertices l.root ((are.presented.level.exact l.root).1 ([], here)) in
        let place : c.0 ≡ v = sym (root_there l.root q.vertices c.0 are.presented.level c.1) ∙ sym e in
        let at : slice_get l.tuples v ≡ Some l.root = ap (λ (ts : List TupleData). slice_get ts v) (sym are.vertices) ∙ (ap (slice_get q.vertices) (sym place) ∙ c.1) in
        ap (λ (ps : Parents). slice_get ps v) are.tree ∙ (has.closed.parents.none v l.root at).1 refl,
  )

  parent_placed : (v : ℕ) (e : Option Start) → slice_get p.tree v ≡ Some e → IfSome e (IsPlaced n)
  parent_placed v None at = tt
  parent_placed v (Some s) at = let link : IsLink q.vertices s.0 s.1 v = are.presented.tree.links v s.0 s.1 at in placed s.0 link.tuple s.1 link.starts link.moves

  pub parents_placed : All (λ e. IfSome e (IsPlaced n)) p.tree
  parents_placed v d h = parent_placed v (get_or p.tree v d) (slice_get-get_or p.tree v d h)

  generator_placed : (s : Start) → Contains p.generators s → IsPlaced n s
  generator_placed s c = let off : IsOffTree q s = (are.presented.generators.exact s).0 c in placed s.0 off.tuple s.1 off.starts off.moves

  pub generators_placed : All (IsPlaced n) p.generators
  generators_placed k d h = generator_placed (get_or p.generators k d) (Contains-get_or p.generators k d h)

  pub generators_few : length p.generators ≤ 65536
  generators_few = few_generators l q 65536 has.closed few_edges are.vertices are.presented.generators

  loop_is : (r : Loop) → IsGoodWay n (r.at, r.moves) → IsSpelled q (told_loop r) → IsGoodLoop n (length q.vertices) r
  loop_is r way own = record {
    vertex = slice_get_within q.vertices r.at own.tuple own.starts;
    way = way;
    few = numbers_length own.numbers;
    numbers = All-weaker (IsNumber q) (λ k. (0 < k) × (k ≤ 65536)) (λ k h. (omega (arith, h.0), omega (arith, h.1, generators_few))) r.word (numbers_are t l.root q are.presented own.numbers);
  }

  loops_are : (rs : List Loop) → All (IsGoodWay n) (map way_of (map told_loop rs)) → All (IsSpelled q) (map told_loop rs) → All (IsGoodLoop n (length q.vertices)) rs
  loops_are [] ways own = All-nil (IsGoodLoop n (length q.vertices))
  loops_are (r ∷ rs) ways own =
      All-cons (IsGoodLoop n (length q.vertices)) r rs
      (loop_is r (All-head (IsGoodWay n) (r.at, r.moves) (map way_of (map told_loop rs)) ways) (All-head (IsSpelled q) (told_loop r) (map told_loop rs) own))
      (loops_are rs (All-tail (IsGoodWay n) (r.at, r.moves) (map way_of (map told_loop rs)) ways) (All-tail (IsSpelled q) (told_loop r) (map told_loop rs) own))

  pub loops_good : All (IsGoodLoop n (length q.vertices)) p.relators
  loops_good = loops_are p.relators (subst (All (IsGoodWay n)) (sym are.relators.ways) (ways_good n count low 0 q.vertices tuples_are)) are.relators.spelled

  pub relators_few : relator_count l.tuples ≤ 393216 → length p.relators ≤ 393216
  relators_few few_relators =
      omega (
        arith,
        length-map p.relators told_loop,
        length-map (map told_loop p.relators) way_of,
        ap length are.relators.ways,
        ap relator_count are.vertices,
        few_relators,
      )

  loop_of_rank : (r : Loop) → IsGoodLoop n (length q.vertices) r → IsLoopOf n r
  loop_of_rank r good = record {
    vertex = (omega arith, omega (arith, good.vertex, few_vertices));
    moves = good.way.moves;
    some = good.way.some;
    numbers = All-weaker (λ k. (0 < k) × (k ≤ 65536)) IsCounting (λ k h. (h.0, omega (arith, h.1))) r.word good.numbers;
  }

  pub parts_are : relator_count l.tuples ≤ 393216 → ArePartsOfRank n count l.root (parts_of p)
  parts_are few_relators = record {
    vertices = tuples_are;
    some = level_some n count l.root root_of has.low q.vertices are.presented.level;
    few = few_vertices;
    entries = are.presented.tree.count;
    root = root_is;
    parents = All-weaker (λ e. IfSome e (IsPlaced n)) (λ e. IfSome e (IsStartOf n)) (told_entry n) p.tree parents_placed;
    generators = All-weaker (IsPlaced n) (IsStartOf n) (told_start n) p.generators generators_placed;
    few_generators = generators_few;
    relators = All-weaker (IsGoodLoop n (length q.vertices)) (IsLoopOf n) loop_of_rank p.relators loops_good;
    few_relators = relators_few few_relators;
  }
