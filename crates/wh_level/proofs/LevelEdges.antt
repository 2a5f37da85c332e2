-- The edges of a level, as they are found one tuple after another.
use Rattle.std.proofs.Common.{◌≡◌, ℕ, zero, suc, ◌+◌, ◌<◌, ◌≤◌, List, [], ◌∷◌, ◌++◌, length, get_or, map, take, Option, Some, None, Result, Ok, Err, IfOk, slice_get, Contains, refl, sym, ap, ◌∙◌, subst, arith, rules, inl, inr}
use Rattle.std.proofs.lemmas.Bool.{cases_lt}
use Rattle.std.proofs.lemmas.List.{length-map, take_more, take_all, length-take, length_push, get_or-take, get_or_read, get_or_default}
use Rattle.std.proofs.lemmas.List.Elements.{Contains-append_left, Contains-push, Contains-push_cases, Contains-get_or}
use Rattle.std.proofs.lemmas.Map.Keys.{Less-from_sorted}
use Rattle.std.proofs.lemmas.Cmp.{then_total, on_total, tied_itself}
use Rattle.std.proofs.lemmas.Option.{slice_get-map, slice_get_read, slice_get-get_or, slice_get_within, get_or_from_slice_get, same_Some}
use Rattle.std.specs.Prelude.{IsSome, MatchOption}
use Rattle.std.specs.Cmp.{IsTotalOrder, nat_cmp_total}
use Rattle.std.specs.List.Sorted.{IsStrictlySortedBy}
use Rattle.std.specs.Option.{option_map}
use Rattle.std.specs.Ordering.{nat_cmp, ordering_then}
use Rattle.std.specs.declared.cmp.Ordering.{Ordering}
use Rattle.std.specs.declared.cmp.Ordering.TheVariants.{Less}
use Rattle.wh_words.specs.Limits.{most_level_rank}
use Rattle.wh_words.specs.Tuples.{TupleData, Tuple}
use Rattle.wh_words.specs.Moves.{Move, move_cmp}
use Rattle.wh_words.specs.Moves.Kind.{swap}
use Rattle.wh_words.specs.Action.{act}
use Rattle.wh_words.specs.Levels.{InLevel, IsLevelMove}
use Rattle.wh_words.proofs.Elements.{contains_none}
use Rattle.wh_moves.specs.MoveOrders.{move_cmp_total}
use Rattle.wh_moves.proofs.PackedOrder.{less_is}
use Rattle.wh_moves.proofs.Walks.{in_level_pushed, reached_rank}
use Rattle.wh_expand.specs.Rows.{AreLevelMoves}
use Rattle.wh_expand.proofs.FirstMoves.{sorted_push}
use Rattle.wh_level.specs.Laws.{EdgesAreUnique}
use Rattle.wh_level.specs.Trees.{LevelData, IsClosedLevel}
use Rattle.wh_level.specs.LevelEdges.{edge_cmp, IsEdge, AreEdges, AreMovesAt, IsEarly, AreFirstEdges, HasMoreEdges}
use Rattle.wh_level.specs.declared.edge_list.Edge.{Edge}
use Rattle.wh_level.proofs.LawProofs.{sorted_same, sorted_within}
use Rattle.wh_level.proofs.SearchEnds.{same_places}

-- ---- one list
pub edge_cmp_total : IsTotalOrder edge_cmp
edge_cmp_total = then_total (on_total (λ (e : Edge). e.from) nat_cmp_total) (on_total (λ (e : Edge). e.via) move_cmp_total)

pub edges_unique : EdgesAreUnique
edges_unique l ds es d e = sorted_same edge_cmp_total ds es d.sorted e.sorted (λ x c. (e.exact x).1 ((d.exact x).0 c)) (λ x c. (d.exact x).1 ((e.exact x).0 c))

-- ---- places and images
-- A tuple of a level stands in it.
pub stands_in_level : (l : LevelData) (v : ℕ) (t : TupleData) → IsClosedLevel l → slice_get l.tuples v ≡ Some t → InLevel l.root t
stands_in_level l v t closed at = (closed.level.exact t).0 (v, slice_get_within l.tuples v t at, get_or_from_slice_get l.tuples v t t at)

-- What a place of the slice of its tuples has.
pub tuple_at : (l : LevelData) (ts : List Tuple) (v : ℕ) (t : Tuple) → map (λ (u : Tuple). u.plain) ts ≡ l.tuples → v < length l.tuples → t ≡ get_or ts v t → slice_get l.tuples v ≡ Some t.plain
tuple_at l ts v t e within is =
    ap (λ (us : List TupleData). slice_get us v) (sym e) ∙ slice_get-map (λ (u : Tuple). u.plain) ts v
    ∙ ap (option_map (λ (u : Tuple). u.plain)) (slice_get_read ts (length ts) v t refl (omega (arith, within, ap length e, length-map ts (λ (u : Tuple). u.plain))) is)

pub tuples_counted : (l : LevelData) (ts : List Tuple) → map (λ (u : Tuple). u.plain) ts ≡ l.tuples → length l.tuples ≡ length ts
tuples_counted l ts e = ap length (sym e) ∙ length-map ts (λ (u : Tuple). u.plain)

-- A tuple of a level has its rank.
pub rank_in_level : (l : LevelData) (v : ℕ) (t : TupleData) → IsClosedLevel l → slice_get l.tuples v ≡ Some t → t.rank ≤ most_level_rank
rank_in_level l v t closed at = subst (λ n. n ≤ most_level_rank) (sym (reached_rank (stands_in_level l v t closed at).1)) closed.rank

pub if_moves_at : {V E : Type 0} (items : V → List Move) (l : LevelData) (v : ℕ) (t : TupleData) (r : Result V E) → slice_get l.tuples v ≡ Some t → IfOk r (λ ms. AreLevelMoves t (items ms)) → IfOk r (λ ms. AreMovesAt l v (items ms))
if_moves_at items l v t (Ok ms) at h = record { tuple = t; stands = at; are = h }
if_moves_at items l v t (Err e) at h = tt

-- A place of the level, and what stands there.
pub record HasPlace (l : LevelData) (t : TupleData) : Type 0 where
  pub place : ℕ
  pub stands : slice_get l.tuples place ≡ Some t

pub has_place_in_level : (l : LevelData) (t : TupleData) → IsClosedLevel l → InLevel l.root t → HasPlace l t
has_place_in_level l t closed r =
    let c : Contains l.tuples t = (closed.level.exact t).1 r in
    record { place = c.0; stands = slice_get-get_or l.tuples c.0 t c.1 ∙ ap Some c.2 }

-- The image of a tuple of a level under a level move has a place.
pub image_has_place : (l : LevelData) (v : ℕ) (t : TupleData) (m : Move) → IsClosedLevel l → slice_get l.tuples v ≡ Some t → IsLevelMove t m → HasPlace l (act t m)
image_has_place l v t m closed at level = has_place_in_level l (act t m) closed (in_level_pushed (stands_in_level l v t closed at) level)

same_fields : (d e : Edge) → d.from ≡ e.from → d.via ≡ e.via → d.to ≡ e.to → d ≡ e
same_fields d e from via to =
    ap (λ (n : ℕ). record { from = n; via = d.via; to = d.to }) from ∙ ap (λ (m : Move). record { from = e.from; via = m; to = d.to }) via ∙ ap (λ (n : ℕ). record { from = e.from; via = e.via; to = n }) to

-- From a place by a move there is one edge.
pub same_edge : (l : LevelData) (d e : Edge) → IsClosedLevel l → IsEdge l d → IsEdge l e → d.from ≡ e.from → d.via ≡ e.via → d ≡ e
same_edge l d e closed a b from via =
    let start : a.start ≡ b.start = same_Some a.start b.start (sym a.stands ∙ ap (slice_get l.tuples) from ∙ b.stands) in
    let image : act a.start d.via ≡ act b.start e.via = ap (λ t. act t d.via) start ∙ ap (act b.start) via in
    same_fields d e from via (same_places l.tuples d.to e.to (act b.start e.via) closed.level.sorted (a.leads ∙ ap Some image) b.leads)

-- So its search finds it.
pub image_found : (l : LevelData) (t : TupleData) (m : Move) (u : TupleData) (r : Option ℕ) → InLevel l.root t → IsLevelMove t m → u ≡ act t m → MatchOption r (¬ (InLevel l.root u)) (λ v. slice_get l.tuples v ≡ Some u) → IsSome r
image_found l t m u None member level is h = absurd (h (subst (InLevel l.root) (sym is) (in_level_pushed member level)))
image_found l t m u (Some v) member level is h = search rules

-- Moves at a place are those of the tuple there.
pub moves_of : {l : LevelData} {v : ℕ} {ms : List Move} {t : TupleData} → AreMovesAt l v ms → slice_get l.tuples v ≡ Some t → AreLevelMoves t ms
moves_of {ms = ms} {t = t} h at = subst (λ u. AreLevelMoves u ms) (same_Some h.tuple t (sym h.stands ∙ at)) h.are

-- ---- what the list has
-- In the list of edges, the edge from a place by a level move to the place of the image.
pub record IsThere (l : LevelData) (es : List Edge) (v : ℕ) (t : TupleData) (m : Move) : Type 0 where
  pub edge : Edge
  pub listed : Contains es edge
  pub from : edge.from ≡ v
  pub via : edge.via ≡ m
  pub leads : slice_get l.tuples edge.to ≡ Some (act t m)

-- Each level move of each tuple has an edge.
pub edge_there : (l : LevelData) (es : List Edge) (v : ℕ) (t : TupleData) (m : Move) → IsClosedLevel l → AreEdges l es → slice_get l.tuples v ≡ Some t → IsLevelMove t m → IsThere l es v t m
edge_there l es v t m closed are at level =
    let to : HasPlace l (act t m) = image_has_place l v t m closed at level in
    let e : Edge = record { from = v; via = m; to = to.place } in
    record { edge = e; listed = (are.exact e).1 (record { start = t; stands = at; moves = level; leads = to.stands }); from = refl; via = refl; leads = to.stands }

-- What stands in the list is an edge.
pub edge_at : (l : LevelData) (es : List Edge) (k : ℕ) (e : Edge) → AreEdges l es → slice_get es k ≡ Some e → IsEdge l e
edge_at l es k e are at = (are.exact e).0 (k, slice_get_within es k e at, get_or_from_slice_get es k e e at)

-- ---- one edge after another
none_first : (l : LevelData) → AreFirstEdges l 0 [] []
unfolding IsStrictlySortedBy
none_first l = record {
  sorted = tt;
  exact = λ e. (
    λ c. absurd (contains_none e c),
    λ h. absurd (elim h.1 [
      | inl a ↦ omega (arith, a)
      | inr b ↦ contains_none e.via b.1
    ]),
  );
}

pub first_none : (l : LevelData) (es : List Edge) → es ≡ [] → AreFirstEdges l 0 [] es
first_none l es is = subst (AreFirstEdges l 0 []) (sym is) (none_first l)

module _ (l : LevelData) (closed : IsClosedLevel l) (n : ℕ) (t : TupleData) (at : slice_get l.tuples n ≡ Some t) where
  pub first_more : (ms : List Move) (m : Move) (to : ℕ) (es : List Edge) → ((x : Move) → Contains ms x → move_cmp x m ≡ Less) → IsLevelMove t m → slice_get l.tuples to ≡ Some (act t m)
      → AreFirstEdges l n ms es → AreFirstEdges l n (ms ++ m ∷ []) (es ++ record { from = n; via = m; to = to } ∷ [])
  first_more ms m to es rising level leads first = record {
    sorted = sorted_push edge_cmp es e first.sorted (λ k d within. below (get_or es k d) (Contains-get_or es k d within));
    exact = λ x. (there x, back x);
  }
    where
      e : Edge
      e = record { from = n; via = m; to = to }

      is : IsEdge l e
      is = record { start = t; stands = at; moves = level; leads = leads }

      below : (d : Edge) → Contains es d → edge_cmp d e ≡ Less
      below d c = elim ((first.exact d).0 c).1 [
        | inl less ↦ ap (λ (o : Ordering). ordering_then o (move_cmp d.via m)) (less_is d.from n less)
        | inr k ↦ ap (λ (o : Ordering). ordering_then o (move_cmp d.via m)) (ap (nat_cmp d.from) (sym k.0) ∙ tied_itself nat_cmp_total d.from) ∙ rising d.via k.1
      ]

      later : (x : Edge) → IsEarly n ms x → IsEarly n (ms ++ m ∷ []) x
      later x (inl a) = inl a
      later x (inr b) = inr (b.0, Contains-append_left ms (m ∷ []) x.via b.1)

      there : (x : Edge) → Contains (es ++ e ∷ []) x → IsEdge l x × IsEarly n (ms ++ m ∷ []) x
      there x c = elim (Contains-push_cases es e x c) [
        | inl k ↦ (((first.exact x).0 k).0, later x ((first.exact x).0 k).1)
        | inr q ↦ subst (λ (y : Edge). IsEdge l y × IsEarly n (ms ++ m ∷ []) y) q (is, inr (refl, Contains-push ms m))
      ]

      back : (x : Edge) → IsEdge l x × IsEarly n (ms ++ m ∷ []) x → Contains (es ++ e ∷ []) x
      back x h = elim h.1 [
        | inl a ↦ Contains-append_left es (e ∷ []) x ((first.exact x).1 (h.0, inl a))
        | inr b ↦ elim (Contains-push_cases ms m x.via b.1) [
          | inl k ↦ Contains-append_left es (e ∷ []) x ((first.exact x).1 (h.0, inr (b.0, k)))
          | inr q ↦ subst (λ (y : Edge). Contains (es ++ e ∷ []) y) (same_edge l e x closed is h.0 (sym b.0) q) (Contains-push es e)
        ]
      ]

  module _ (ms : List Move) (are : AreLevelMoves t ms) where
    rising_at : (k : ℕ) (m : Move) → k < length ms → m ≡ get_or ms k m → (x : Move) → Contains (take k ms) x → move_cmp x m ≡ Less
    rising_at k m within item x c =
        let low : c.0 < k = omega (arith, c.1, length-take k ms) in
        let here : get_or ms c.0 x ≡ x = sym (get_or-take k ms c.0 x low) ∙ c.2 in
        let there : get_or ms k x ≡ m = sym (get_or_read ms k m within item x) in
        ap (λ y. move_cmp y m) (sym here) ∙ ap (move_cmp (get_or ms c.0 x)) (sym there) ∙ Less-from_sorted move_cmp ms c.0 k x are.sorted low within

    -- The next move of the tuple, with its edge.
    pub first_next : (k : ℕ) (m : Move) (to : ℕ) (es : List Edge) → k < length ms → m ≡ get_or ms k m → slice_get l.tuples to ≡ Some (act t m)
        → AreFirstEdges l n (take k ms) es → AreFirstEdges l n (take (k + 1) ms) (es ++ record { from = n; via = m; to = to } ∷ [])
    first_next k m to es within item leads first =
        subst (λ (ns : List Move). AreFirstEdges l n ns (es ++ record { from = n; via = m; to = to } ∷ []))
        (ap (λ (x : Move). take k ms ++ x ∷ []) item ∙ sym (take_more ms k m within))
        (first_more (take k ms) m to es (rising_at k m within item) ((are.exact m).0 (k, within, sym item)) leads first)

    -- All moves of the tuple.
    pub first_row : (k : ℕ) (es : List Edge) → length ms ≤ k → AreFirstEdges l n (take k ms) es → AreFirstEdges l (n + 1) [] es
    first_row k es all first = record { sorted = first.sorted; exact = λ x. (there x, back x) }
      where
        whole : AreFirstEdges l n ms es
        whole = subst (λ (ns : List Move). AreFirstEdges l n ns es) (take_all k ms all) first

        there : (x : Edge) → Contains es x → IsEdge l x × IsEarly (n + 1) [] x
        there x c = (
          ((whole.exact x).0 c).0,
          elim ((whole.exact x).0 c).1 [
            | inl a ↦ inl (omega (arith, a))
            | inr b ↦ inl (omega (arith, b.0))
          ],
        )

        at_last : (x : Edge) → IsEdge l x → x.from < n + 1 → Contains es x
        at_last x edge a = elim (cases_lt x.from n) [
          | inl low ↦ (whole.exact x).1 (edge, inl low)
          | inr high ↦
              let from : x.from ≡ n = omega (arith, a, high) in
              let start : edge.start ≡ t = same_Some edge.start t (sym edge.stands ∙ ap (slice_get l.tuples) from ∙ at) in
              (whole.exact x).1 (edge, inr (from, (are.exact x.via).1 (subst (λ u. IsLevelMove u x.via) start edge.moves)))
        ]

        back : (x : Edge) → IsEdge l x × IsEarly (n + 1) [] x → Contains es x
        back x h = elim h.1 [
          | inl a ↦ at_last x h.0 a
          | inr b ↦ absurd (contains_none x.via b.1)
        ]

    -- So many edges there are with the first moves of the tuple.
    record IsFilled (k before : ℕ) : Type 0 where
      pub edges : List Edge
      pub first : AreFirstEdges l n (take k ms) edges
      pub count : length edges ≡ before + k

    fill : (es : List Edge) → AreFirstEdges l n [] es → (k : ℕ) → k ≤ length ms → IsFilled k (length es)
    fill es first zero within = record { edges = es; first = first; count = omega arith }
    fill es first (suc k) within =
        let before : IsFilled k (length es) = fill es first k (omega (arith, within)) in
        let m : Move = get_or ms k (record { rank = 0; kind = swap 0 }) in
        let item : m ≡ get_or ms k m = get_or_default ms k (record { rank = 0; kind = swap 0 }) m (omega (arith, within)) in
        let to : HasPlace l (act t m) = image_has_place l n t m closed at ((are.exact m).0 (k, omega (arith, within), sym item)) in
        let next : k + 1 ≡ suc k = omega arith in
        record {
          edges = before.edges ++ record { from = n; via = m; to = to.place } ∷ [];
          first = subst (λ (j : ℕ). AreFirstEdges l n (take j ms) (before.edges ++ record { from = n; via = m; to = to.place } ∷ [])) next (first_next k m to.place before.edges (omega (arith, within)) item to.stands before.first);
          count = length_push before.edges (record { from = n; via = m; to = to.place }) ∙ omega (arith, before.count);
        }

    -- The level has no fewer edges than those of the tuples before and the moves of this one.
    pub more_edges : (es : List Edge) (limit : ℕ) → AreFirstEdges l n [] es → limit < length es + length ms → HasMoreEdges l limit
    more_edges es limit first more ws whole =
        let all : IsFilled (length ms) (length es) = fill es first (length ms) (omega arith) in
        omega (arith, more, all.count, sorted_within edge_cmp_total all.edges ws all.first.sorted whole.sorted (λ x c. (whole.exact x).1 ((all.first.exact x).0 c).0))

-- Those of all tuples are all edges.
pub first_all : (l : LevelData) (n : ℕ) (es : List Edge) → length l.tuples ≤ n → AreFirstEdges l n [] es → AreEdges l es
first_all l n es all first = record {
  sorted = first.sorted;
  exact = λ x. (λ c. ((first.exact x).0 c).0, λ edge. (first.exact x).1 (edge, inl (omega (arith, all, slice_get_within l.tuples x.from edge.start edge.stands))));
}
