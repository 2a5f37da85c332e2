-- Ways of moves through vertices, move by move.
use Rattle.std.proofs.Common.{◌≡◌, ◌≢◌, ℕ, ◌+◌, ◌<◌, ◌≤◌, Bool, false, List, [], ◌∷◌, ◌++◌, length, get_or, take, drop, Option, Some, None, Result, Ok, Err, slice_get, Contains, inl, inr, sym, ap, ◌∙◌, subst, ◌↔◌, IsTrue, arith}
use Rattle.std.specs.Prelude.{MatchOption}
use Rattle.std.specs.List.{All}
use Rattle.std.specs.List.Sorted.{IsStrictlySortedBy, IsSearchInRange, IsBinarySearchResult}
use Rattle.std.specs.Result.{result_ok}
use Rattle.std.specs.Ordering.{ordering_index, is_eq}
use Rattle.std.specs.declared.cmp.Ordering.TheVariants.{Less, Equal, Greater}
use Rattle.std.proofs.lemmas.Bool.{cases_lt, true≢false}
use Rattle.std.proofs.lemmas.List.{take_more, drop_more, drop_all, length-map, length-append, get_or-map, get_or_push}
use Rattle.std.proofs.Math.ListN.{get_or-append}
use Rattle.std.proofs.lemmas.Option.{slice_get-get_or, slice_get_within, get_or_from_slice_get}
use Rattle.wh_words.specs.Tuples.{TupleData, Tuple, tuple_cmp, tuple_length}
use Rattle.wh_words.specs.Moves.{Move, IsMove, IsIdentityCut}
use Rattle.wh_words.specs.Action.{act, act_all}
use Rattle.wh_words.specs.Levels.{IsLevel, InLevel}
use Rattle.wh_words.proofs.MoveLists.{act_all-append}
use Rattle.wh_words.proofs.SameTuples.{tuple_cmp_total, tied}
use Rattle.wh_moves.proofs.Walks.{reached_length}
use Rattle.wh_stab.proofs.Places.{sorted_search}
use Rattle.wh_data.specs.AnswerData.{plains}
use Rattle.wh_cert.specs.Demands.{tuple_at, StepsIn}
use Rattle.wh_cert.proofs.Rising.{plain_at}
use Rattle.wh_cert.specs.VertexWays.{AreVertices, IsStepIn, LeadsTo, AreStops}

-- ---- searches
-- What a search among tuples finds it finds among their data.
pub plains_searched : (ts : List Tuple) (x : TupleData) (r : Result ℕ ℕ) → IsSearchInRange r (length ts) → IsBinarySearchResult (λ (t : Tuple). tuple_cmp t.plain x) ts r → IsBinarySearchResult (λ (y : TupleData). tuple_cmp y x) (plains ts) r
plains_searched ts x (Ok v) range found = λ d.
    subst (λ (y : TupleData). tuple_cmp y x ≡ Equal) (sym (get_or-map (λ (t : Tuple). t.plain) ts v (record { plain = d; room = 0; word_room = 0 }) d range)) (found (record { plain = d; room = 0; word_room = 0 }))
plains_searched ts x (Err i) range found = λ rises.
    let roomless : TupleData → Tuple = λ d. record { plain = d; room = 0; word_room = 0 } in
    let same : (k : ℕ) (d : TupleData) → k < length ts → get_or (plains ts) k d ≡ (get_or ts k (roomless d)).plain = λ k d l. get_or-map (λ (t : Tuple). t.plain) ts k (roomless d) d l in
    let same_own : (k : ℕ) (t : Tuple) → k < length ts → get_or (plains ts) k t.plain ≡ (get_or ts k t).plain = λ k t l. get_or-map (λ (u : Tuple). u.plain) ts k t t.plain l in
    let parted = found (λ j k t l m.
    subst (λ (y : TupleData). ordering_index (tuple_cmp y x) ≤ ordering_index (tuple_cmp (get_or ts k t).plain x)) (same_own j t (omega (arith, l, m)))
    (subst (λ (y : TupleData). ordering_index (tuple_cmp (get_or (plains ts) j t.plain) x) ≤ ordering_index (tuple_cmp y x)) (same_own k t m)
    (rises j k t.plain l (omega (arith, m, length-map ts (λ (u : Tuple). u.plain)))))) in (
      λ k d l m. subst (λ (y : TupleData). tuple_cmp y x ≡ Less) (sym (same k d (omega (arith, m, range)))) (parted.0 k (roomless d) l m),
      λ k d l m.
          let within : k < length ts = omega (arith, m, length-map ts (λ (u : Tuple). u.plain)) in
          subst (λ (y : TupleData). tuple_cmp y x ≡ Greater) (sym (same k d within)) (parted.1 k (roomless d) l within),
    )

same_tuples : (s t : TupleData) → tuple_cmp s t ≡ Equal → s ≡ t
same_tuples s t e = tied s t (ap is_eq e)

-- A search among tuples in their order finds the place of a tuple, or shows that it isn't there.
pub vertex_found : (ts : List Tuple) (x : TupleData) → IsStrictlySortedBy tuple_cmp (plains ts) → (r : Result ℕ ℕ) (q : Option ℕ) → IsSearchInRange r (length ts) → IsBinarySearchResult (λ (t : Tuple). tuple_cmp t.plain x) ts r → q ≡ result_ok r →
    MatchOption q (¬ (Contains (plains ts) x)) (λ v. slice_get (plains ts) v ≡ Some x)
vertex_found ts x sorted r q range found is =
    sorted_search tuple_cmp_total same_tuples (plains ts) x sorted r q (subst (IsSearchInRange r) (sym (length-map ts (λ (t : Tuple). t.plain))) range) (plains_searched ts x r range found) is

-- ---- images
-- An image of another length than the vertices isn't one of them.
pub no_vertex : (n : ℕ) (ts : List TupleData) (t : TupleData) (m : Move) → AreVertices n ts → Contains ts t → tuple_length (act t m) ≢ tuple_length t → ¬ (Contains ts (act t m))
no_vertex n ts t m is own other c = other (is.length (act t m) t c own)

-- The tuples of a level are vertices.
pub level_vertices : (n : ℕ) (root : TupleData) (ts : List TupleData) → IsLevel root ts → All (λ t. t.rank ≡ n) ts → AreVertices n ts
level_vertices n root ts level ranks = record {
  sorted = level.sorted;
  rank = λ t c. subst (λ (u : TupleData). u.rank ≡ n) c.2 (ranks c.0 t c.1);
  length = λ t u c d.
      let p : InLevel root t = (level.exact t).0 c in
      let q : InLevel root u = (level.exact u).0 d in
      reached_length p.1 ∙ sym (reached_length q.1);
}

-- A move that is no identity cut leads where its image is.
pub step_taken : (ts : List Tuple) (from : ℕ) (t : Tuple) (m : Move) (b : Bool) (r : Option ℕ) → from < length ts → t ≡ get_or ts from t → IsMove m → IsTrue b ↔ IsIdentityCut m.kind → b ≡ false →
    MatchOption r (¬ (Contains (plains ts) (act t.plain m))) (λ v. slice_get (plains ts) v ≡ Some (act t.plain m)) → MatchOption r (¬ (IsStepIn (plains ts) (tuple_at (plains ts) from) m)) (LeadsTo (plains ts) (tuple_at (plains ts) from) m)
step_taken ts from t m b None l e valid exact other h = λ s. h (subst (λ (u : TupleData). Contains (plains ts) (act u m)) (sym (plain_at ts from t l e)) s.2)
step_taken ts from t m b (Some v) l e valid exact other h = (valid, λ i. true≢false (sym (exact.1 i) ∙ other), h ∙ ap (λ (u : TupleData). Some (act u m)) (plain_at ts from t l e))

-- ---- ways
-- The tuple at a place is what stands there.
pub at_place : (ts : List TupleData) (v : ℕ) → v < length ts → slice_get ts v ≡ Some (tuple_at ts v)
at_place ts v l = slice_get-get_or ts v (record { rank = 0; words = [] }) l

pub stands_at : (ts : List TupleData) (v : ℕ) (t : TupleData) → slice_get ts v ≡ Some t → tuple_at ts v ≡ t
stands_at ts v t h = get_or_from_slice_get ts v t (record { rank = 0; words = [] }) h

-- The first n moves of a way lead to the vertex at a place, and the rest is what is left of it.
pub record IsFollowed (ts : List TupleData) (at : ℕ) (ms : List Move) (n here : ℕ) (stops : List ℕ) : Type 0 where
  pub stands : slice_get ts here ≡ Some (act_all (tuple_at ts at) (take n ms))
  pub count : length stops ≡ n + 1
  pub each : (k d : ℕ) → k < length stops → slice_get ts (get_or stops k d) ≡ Some (act_all (tuple_at ts at) (take k ms))
  pub steps : StepsIn ts (tuple_at ts at) ms ↔ StepsIn ts (act_all (tuple_at ts at) (take n ms)) (drop n ms)

pub way_begins : (ts : List TupleData) (at : ℕ) (ms : List Move) (stops : List ℕ) → at < length ts → stops ≡ at ∷ [] → IsFollowed ts at ms 0 at stops
way_begins ts at ms stops l e = record {
  stands = at_place ts at l;
  count = ap length e ∙ omega arith;
  each = λ k d m.
      let none : k ≡ 0 = omega (arith, m, ap length e) in
      ap (λ (j : ℕ). slice_get ts (get_or stops j d)) none ∙ ap (λ (s : List ℕ). slice_get ts (get_or s 0 d)) e ∙ at_place ts at l ∙ ap (λ (j : ℕ). Some (act_all (tuple_at ts at) (take j ms))) (sym none);
  steps = (λ h. h, λ h. h);
}

-- After one move more.
pub act_all-more : (t : TupleData) (ms : List Move) (i : ℕ) (m : Move) → i < length ms → m ≡ get_or ms i m → act_all t (take (i + 1) ms) ≡ act (act_all t (take i ms)) m
act_all-more t ms i m h e = ap (act_all t) (take_more ms i m h ∙ ap (λ n. take i ms ++ n ∷ []) (sym e)) ∙ act_all-append t (take i ms) (m ∷ [])

module _ (ts : List TupleData) (at : ℕ) (ms : List Move) (n here : ℕ) (stops : List ℕ) (m : Move) (within : n < length ms) (item : m ≡ get_or ms n m) (far : IsFollowed ts at ms n here stops) where
  abbrev now : TupleData
  now = act_all (tuple_at ts at) (take n ms)

  rest : drop n ms ≡ m ∷ drop (n + 1) ms
  rest = drop_more ms n m within ∙ ap (λ (x : Move). x ∷ drop (n + 1) ms) (sym item)

  standing : tuple_at ts here ≡ now
  standing = stands_at ts here now far.stands

  next_tuple : act_all (tuple_at ts at) (take (n + 1) ms) ≡ act now m
  next_tuple = act_all-more (tuple_at ts at) ms n m within item

  -- Where a move leads to no vertex the way doesn't.
  pub way_stops : ¬ (IsStepIn ts (tuple_at ts here) m) → ¬ (StepsIn ts (tuple_at ts at) ms)
  way_stops lacks h =
      let left : StepsIn ts now (m ∷ drop (n + 1) ms) = subst (StepsIn ts now) rest (far.steps.0 h) in
      lacks (subst (λ (t : TupleData). IsStepIn ts t m) (sym standing) (left.0, left.1, left.2))

  pub way_goes_on : (next : ℕ) (new : List ℕ) → LeadsTo ts (tuple_at ts here) m next → new ≡ stops ++ next ∷ [] → IsFollowed ts at ms (n + 1) next new
  way_goes_on next new leads e =
      let goes : LeadsTo ts now m next = subst (λ (t : TupleData). LeadsTo ts t m next) standing leads in
      let stands : slice_get ts next ≡ Some (act_all (tuple_at ts at) (take (n + 1) ms)) = goes.2 ∙ ap Some (sym next_tuple) in
      record {
        stands = stands;
        count = ap length e ∙ (let longer : length (stops ++ next ∷ []) ≡ n + 1 + 1 = omega (arith, length-append stops (next ∷ []), far.count) in longer);
        each = λ k d l. ap (λ (s : List ℕ). slice_get ts (get_or s k d)) e ∙ elim (cases_lt k (length stops)) [
          | inl below ↦ ap (slice_get ts) (get_or-append stops (next ∷ []) d k below) ∙ far.each k d below
          | inr above ↦
              let last : length stops ≡ k = omega (arith, above, l, ap length e, length-append stops (next ∷ [])) in
              let number : n + 1 ≡ k = omega (arith, last, far.count) in
              ap (slice_get ts) (get_or_push stops next d k last) ∙ stands ∙ ap (λ (j : ℕ). Some (act_all (tuple_at ts at) (take j ms))) number
        ];
        steps = (
          λ h. subst (λ (t : TupleData). StepsIn ts t (drop (n + 1) ms)) (sym next_tuple) (subst (StepsIn ts now) rest (far.steps.0 h)).3,
          λ h. far.steps.1 (subst (StepsIn ts now) (sym rest) (
            goes.0,
            goes.1,
            (next, slice_get_within ts next (act now m) goes.2, get_or_from_slice_get ts next (act now m) (act now m) goes.2),
            subst (λ (t : TupleData). StepsIn ts t (drop (n + 1) ms)) next_tuple h,
          )),
        );
      }

-- At the end the whole way was followed.
pub way_is_followed : (ts : List TupleData) (at : ℕ) (ms : List Move) (n here : ℕ) (stops : List ℕ) → n ≡ length ms → IsFollowed ts at ms n here stops → StepsIn ts (tuple_at ts at) ms × AreStops ts at ms stops
way_is_followed ts at ms n here stops all far = (
  far.steps.1 (subst (StepsIn ts (act_all (tuple_at ts at) (take n ms))) (sym (drop_all n ms (omega (arith, all)))) tt),
  record { count = far.count ∙ ap (λ (j : ℕ). j + 1) all; each = far.each },
)
