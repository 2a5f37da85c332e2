-- The start of the search for first walks, its stops one by one, and what it has found at its end.
use Rattle.std.proofs.Common.{◌≡◌, ◌≢◌, ℕ, zero, suc, ◌+◌, ◌<◌, ◌≤◌, true, false, List, [], ◌∷◌, ◌++◌, length, get_or, replicate, reverse, Some, None, slice_get, Contains, ◌↔◌, refl, sym, ap, ◌∙◌, subst, arith, inl, inr}
use Rattle.std.proofs.lemmas.Bool.{cases_eq, cases_lt}
use Rattle.std.proofs.lemmas.List.{length_push, length-set, length-map, get_or-map, get_or_default, length-replicate, reverse-append, reverse-reverse, length-reverse}
use Rattle.std.proofs.lemmas.List.Elements.{All-contains, All-nil, All-cons}
use Rattle.std.proofs.lemmas.Map.Keys.{Less-from_sorted}
use Rattle.std.proofs.lemmas.Option.{slice_get-get_or, slice_get_within, get_or_from_slice_get, same_Some, some_pair_parts}
use Rattle.std.specs.List.{All}
use Rattle.std.specs.List.Sorted.{IsStrictlySortedBy}
use Rattle.std.specs.declared.cmp.Ordering.TheVariants.{Less}
use Rattle.wh_words.specs.Tuples.{TupleData, tuple_cmp}
use Rattle.wh_words.specs.Moves.{Move}
use Rattle.wh_words.specs.Levels.{IsLevelMove, Reaches, InLevel, IsFirstWalk}
use Rattle.wh_words.specs.Levels.Reaches.{here}
use Rattle.wh_sets.proofs.SetLists.{contains_at}
use Rattle.wh_level.specs.Trees.{LeadsBack, IsWalkedTo, AreParents, AreWithin}
use Rattle.wh_level.specs.Trees.LeadsBack.{root as back_at_root, step as back_step}
use Rattle.wh_level.specs.Searches.{SearchData, started, Stop, NoLater, Earlier, HasParent, IsStop, IsFollowed, AllEarlier, IsKnown, IsSearched}
use Rattle.wh_level.specs.Searches.HasParent.{none, some}
use Rattle.wh_level.proofs.Cells.{slice_get_set_same, slice_get_set_other, slice_get_replicate, count_unseen_set, count_unseen_all}
use Rattle.wh_words.proofs.SameTuples.{tuple_cmp_total}
use Rattle.wh_level.proofs.LawProofs.{less_itself}
use Rattle.wh_level.proofs.Shortlex.{no_later_itself, earlier_when_shorter}
use Rattle.wh_level.proofs.Stops.{IsUnderway, below_cases}
use Rattle.wh_moves.proofs.Walks.{reached_itself}
use Rattle.wh_level.proofs.Walks.{IsArrived, IsWhole, arrives, first_from}

-- ---- the start
module _ (root : TupleData) (tuples : List TupleData) (v : ℕ) (at_root : slice_get tuples v ≡ Some root) where
  abbrev first : Stop
  first = record { place = v; tuple = root; path = [] }

  abbrev s : SearchData
  s = started (length tuples) v

  v_within : v < length tuples
  v_within = slice_get_within tuples v root at_root

  one_only : (k : ℕ) (d : Stop) → k < 1 → get_or (first ∷ []) k d ≡ first
  one_only zero d h = refl
  one_only (suc k) d h = absurd (omega arith)

  unseen_elsewhere : (w : ℕ) → w ≢ v → slice_get s.seen w ≡ Some true → ⊥
  unseen_elsewhere w n h =
      let e : slice_get (replicate (length tuples) false) w ≡ Some true = sym (slice_get_set_other (replicate (length tuples) false) v w true n) ∙ h in
      let within : w < length (replicate (length tuples) false) = slice_get_within (replicate (length tuples) false) w true e in
      let f : slice_get (replicate (length tuples) false) w ≡ Some false = slice_get_replicate (length tuples) w false (omega (arith, within, length-replicate (length tuples) false)) in
      absurd (let both : Some false ≡ Some true = sym f ∙ e in cc)

  seen_queued : (w : ℕ) → slice_get s.seen w ≡ Some true → Contains s.queue w
  seen_queued w h = elim (cases_eq w v) [
    | inl e ↦ (0, omega arith, sym e)
    | inr n ↦ absurd (unseen_elsewhere w n h)
  ]

  known_at_start : IsKnown root tuples s (first ∷ [])
  known_at_start = record {
    each = All-cons (IsStop root tuples s.parents (first ∷ [])) first []
        (record { at = at_root; walk = here; parent = none refl (slice_get_replicate (length tuples) v None v_within) })
        (All-nil (IsStop root tuples s.parents (first ∷ [])));
    start = record { stop = first; found = (0, omega arith, refl); tuple = refl; path = refl };
    rising = λ j k d h l. absurd (omega (arith, h, l));
    apart = λ j k d h l. absurd (omega (arith, h, l));
    short = λ k d l. subst (λ (e : Stop). length e.path ≤ k) (sym (one_only k d l)) (omega arith);
    queue = refl;
    parents = length-replicate (length tuples) None;
    places = length-set (replicate (length tuples) false) v true ∙ length-replicate (length tuples) false;
    seen = seen_queued;
    queued = All-cons (λ w. slice_get s.seen w ≡ Some true) v [] (slice_get_set_same (replicate (length tuples) false) v true (omega (arith, v_within, length-replicate (length tuples) false)))
        (All-nil (λ w. slice_get s.seen w ≡ Some true));
    room = omega (arith, count_unseen_all (length tuples), count_unseen_set (replicate (length tuples) false) v (slice_get_replicate (length tuples) v false v_within));
  }

  earlier_at_start : (m : Move) → AllEarlier (first ∷ []) (first.path ++ m ∷ [])
  earlier_at_start m = All-cons (λ (e : Stop). Earlier e.path (first.path ++ m ∷ [])) first [] (earlier_when_shorter [] (m ∷ []) (omega arith)) (All-nil (λ (e : Stop). Earlier e.path (first.path ++ m ∷ [])))

  pub searched_at_start : IsSearched root tuples (started (length tuples) v) 0
  searched_at_start = record {
    stops = first ∷ [];
    known = known_at_start;
    done = λ k d h. absurd (omega (arith, h));
    ahead = λ k d h l m. subst (λ (e : Stop). AllEarlier (first ∷ []) (e.path ++ m ∷ [])) (sym (one_only k d l)) (earlier_at_start m);
  }

-- ---- a stop
module _ {root : TupleData} {tuples : List TupleData} {s : SearchData} {at : ℕ} (u : IsSearched root tuples s at) where
  abbrev blank : Stop
  blank = record { place = 0; tuple = root; path = [] }

  queue_length : length s.queue ≡ length u.stops
  queue_length = ap length u.known.queue ∙ length-map u.stops (λ (e : Stop). e.place)

  pub queue_room : length s.queue ≤ length tuples
  queue_room = omega (arith, u.known.room)

  -- the tuple of a place of the queue
  pub queue_tuple : (v : ℕ) → at < length s.queue → get_or s.queue at v ≡ v → (slice_get tuples v ≡ Some (get_or u.stops at blank).tuple) × InLevel root (get_or u.stops at blank).tuple
  queue_tuple v h e =
      let within : at < length u.stops = omega (arith, queue_length) in
      let e_place : (get_or u.stops at blank).place ≡ v = sym (get_or-map (λ (x : Stop). x.place) u.stops at blank v within) ∙ sym (ap (λ (q : List ℕ). get_or q at v) u.known.queue) ∙ e in
      let is : IsStop root tuples s.parents u.stops (get_or u.stops at blank) = u.known.each at blank within in
      (sym (ap (slice_get tuples) e_place) ∙ is.at, ((get_or u.stops at blank).path, is.walk))

  pub underway_start : (v : ℕ) (t : TupleData) (moves : List Move) → at < length s.queue → get_or s.queue at v ≡ v → slice_get tuples v ≡ Some t → IsUnderway root tuples s at v t moves 0
  underway_start v t moves h e at_v =
      let within : at < length u.stops = omega (arith, queue_length) in
      let e_place : (get_or u.stops at blank).place ≡ v = sym (get_or-map (λ (x : Stop). x.place) u.stops at blank v within) ∙ sym (ap (λ (q : List ℕ). get_or q at v) u.known.queue) ∙ e in
      let is : IsStop root tuples s.parents u.stops (get_or u.stops at blank) = u.known.each at blank within in
      record {
        stops = u.stops;
        known = u.known;
        done = u.done;
        current = get_or u.stops at blank;
        within = within;
        here = λ d. get_or_default u.stops at d blank within;
        stands = e_place;
        tuple = same_Some (get_or u.stops at blank).tuple t (sym is.at ∙ ap (slice_get tuples) e_place ∙ at_v);
        followed = λ i d l. absurd (omega (arith, l));
        next = λ i d k l. u.ahead at blank (omega arith) within (get_or moves i d);
        later = λ k d l w m. u.ahead k d (omega (arith, l)) w m;
      }

module _ {root : TupleData} {tuples : List TupleData} {s : SearchData} {at v : ℕ} {t : TupleData} {moves : List Move} {j : ℕ} (u : IsUnderway root tuples s at v t moves j)
    (all : length moves ≤ j) (exact : (m : Move) → IsLevelMove t m → Contains moves m) where
  each_followed : (m : Move) → IsLevelMove u.current.tuple m → IsFollowed u.stops u.current m
  each_followed m h =
      let c : Contains moves m = exact m (subst (λ (x : TupleData). IsLevelMove x m) u.tuple h) in
      subst (λ (n : Move). IsFollowed u.stops u.current n) c.2 (u.followed c.0 m (omega (arith, c.1, all)) c.1)

  pub underway_end : IsSearched root tuples s (at + 1)
  underway_end = record {
    stops = u.stops;
    known = u.known;
    done = λ k d h l. elim (below_cases k at h) [
      | inl b ↦ u.done k d b l
      | inr e ↦ subst (λ (x : Stop). (m : Move) → IsLevelMove x.tuple m → IsFollowed u.stops x m) (sym (ap (λ i. get_or u.stops i d) e ∙ u.here d)) each_followed
    ];
    ahead = λ k d h l m. u.later k d (omega (arith, h)) l m;
  }

-- ---- the end
pub same_places : (tuples : List TupleData) (v w : ℕ) (t : TupleData) → IsStrictlySortedBy tuple_cmp tuples → slice_get tuples v ≡ Some t → slice_get tuples w ≡ Some t → v ≡ w
same_places tuples v w t sorted h k = elim (cases_lt v w) [
  | inl l ↦ absurd (less_at v w h k l)
  | inr l ↦ elim (cases_lt w v) [
    | inl m ↦ absurd (less_at w v k h m)
    | inr m ↦ omega (arith, l, m)
  ]
]
  where
    less_at : (a b : ℕ) → slice_get tuples a ≡ Some t → slice_get tuples b ≡ Some t → a < b → ⊥
    less_at a b p q l =
        less_itself tuple_cmp_total t
        (subst (λ (x : TupleData). tuple_cmp x t ≡ Less) (get_or_from_slice_get tuples a t t p)
        (subst (λ (y : TupleData). tuple_cmp (get_or tuples a t) y ≡ Less) (get_or_from_slice_get tuples b t t q)
        (Less-from_sorted tuple_cmp tuples a b t sorted l (slice_get_within tuples b t q))))

-- No tuple has two places.
abbrev pub AreAlone : List TupleData → Type 0
AreAlone tuples = (v w : ℕ) (t : TupleData) → slice_get tuples v ≡ Some t → slice_get tuples w ≡ Some t → v ≡ w

module _ {root : TupleData} {tuples : List TupleData} {s : SearchData} {at : ℕ} (u : IsSearched root tuples s at) (all : length s.queue ≤ at) (inside : All (InLevel root) tuples) (alone : AreAlone tuples) where
  whole : IsWhole u.stops
  whole e c = subst (λ (x : Stop). (m : Move) → IsLevelMove x.tuple m → IsFollowed u.stops x m) c.2 (u.done c.0 e (omega (arith, c.1, all, queue_length u)) c.1)

  from_start : IsArrived u.stops [] root
  from_start = record { stop = u.known.start.stop; found = u.known.start.found; is = u.known.start.tuple; early = subst (λ (p : List Move). NoLater p []) (sym u.known.start.path) (no_later_itself []) }

  arrived : {t : TupleData} {q : List Move} → Reaches root q t → IsArrived u.stops q t
  arrived r = arrives [] whole r from_start

  is_stop : (e : Stop) → Contains u.stops e → IsStop root tuples s.parents u.stops e
  is_stop e c = All-contains (IsStop root tuples s.parents u.stops) u.stops e u.known.each c

  pub level_exact : (t : TupleData) → Contains tuples t ↔ InLevel root t
  level_exact t = (
    λ c. All-contains (InLevel root) tuples t inside c,
    λ r.
        let a : IsArrived u.stops r.0 t = arrived r.1 in
        contains_at tuples a.stop.place t ((is_stop a.stop a.found).at ∙ ap Some a.is),
  )

  -- stops at one place are one stop
  same_stops : (e f : Stop) → Contains u.stops e → Contains u.stops f → e.place ≡ f.place → e ≡ f
  same_stops e f c d is = elim (cases_lt c.0 d.0) [
    | inl l ↦ absurd (apart_at e f c d l is)
    | inr l ↦ elim (cases_lt d.0 c.0) [
      | inl m ↦ absurd (apart_at f e d c m (sym is))
      | inr m ↦ (
          let same : c.0 ≡ d.0 = omega (arith, l, m) in
          sym c.2 ∙ ap (λ k. get_or u.stops k e) same ∙ get_or_default u.stops d.0 e f d.1 ∙ d.2)
    ]
  ]
    where
      apart_at : (x y : Stop) (p : Contains u.stops x) (q : Contains u.stops y) → p.0 < q.0 → x.place ≡ y.place → ⊥
      apart_at x y p q l e =
          u.known.apart p.0 q.0 x l q.1 (ap (λ (z : Stop). z.place) p.2 ∙ e ∙ sym (ap (λ (z : Stop). z.place) (get_or_default u.stops q.0 x y q.1 ∙ q.2)))

  leads_back : (n : ℕ) (e : Stop) → HasParent s.parents u.stops e → length e.path ≤ n → LeadsBack s.parents e.place (reverse e.path)
  leads_back n e (none path at_root) h = subst (λ (p : List Move). LeadsBack s.parents e.place (reverse p)) (sym path) (back_at_root at_root)
  leads_back zero e (some f m there path from) h = absurd (omega (arith, h, ap length path, length_push f.path m))
  leads_back (suc n) e (some f m there path from) h =
      subst (λ (p : List Move). LeadsBack s.parents e.place (reverse p)) (sym path)
      (subst (LeadsBack s.parents e.place) (sym (reverse-append f.path (m ∷ []))) (back_step from (leads_back n f (is_stop f there).parent (omega (arith, h, ap length path, length_push f.path m)))))

  stop_short : (e : Stop) → Contains u.stops e → length e.path < length s.parents
  stop_short e c = omega (arith, subst (λ (x : Stop). length x.path ≤ c.0) c.2 (u.known.short c.0 e c.1), c.1, queue_length u, u.known.room, u.known.parents)

  -- the stop of a tuple
  stop_here : (v : ℕ) (t : TupleData) → slice_get tuples v ≡ Some t → (e : Stop) × Contains u.stops e × (e.place ≡ v) × (e.tuple ≡ t)
  stop_here v t h =
      let r : InLevel root t = All-contains (InLevel root) tuples t inside (contains_at tuples v t h) in
      let a : IsArrived u.stops r.0 t = arrived r.1 in
      (a.stop, a.found, alone a.stop.place v t ((is_stop a.stop a.found).at ∙ ap Some a.is) h, a.is)

  stop_first : (e : Stop) → Contains u.stops e → (q : List Move) → Reaches root q e.tuple → NoLater e.path q
  stop_first e c q r =
      let a : IsArrived u.stops q e.tuple = arrived r in
      let one : a.stop ≡ e = same_stops a.stop e a.found c (alone a.stop.place e.place e.tuple ((is_stop a.stop a.found).at ∙ ap Some a.is) (is_stop e c).at) in
      subst (λ (x : Stop). NoLater x.path q) one a.early

  walked_to : (v : ℕ) (t : TupleData) → slice_get tuples v ≡ Some t → IsWalkedTo root s.parents v t
  walked_to v t h =
      let e : (e : Stop) × Contains u.stops e × (e.place ≡ v) × (e.tuple ≡ t) = stop_here v t h in
      let walk : IsFirstWalk root e.0.tuple e.0.path = first_from (is_stop e.0 e.1).walk (stop_first e.0 e.1) in
      record {
        back = reverse e.0.path;
        leads = subst (λ (w : ℕ). LeadsBack s.parents w (reverse e.0.path)) e.2 (leads_back (length e.0.path) e.0 (is_stop e.0 e.1).parent (omega arith));
        first = subst (λ (p : List Move). IsFirstWalk root t p) (sym (reverse-reverse e.0.path)) (subst (λ (x : TupleData). IsFirstWalk root x e.0.path) e.3 walk);
        short = omega (arith, length-reverse e.0.path, stop_short e.0 e.1);
      }

  -- the parents tell places that there are
  pub parents_within : AreWithin (length tuples) s.parents
  parents_within v p m h =
      let t : TupleData = get_or tuples v root in
      let e : (e : Stop) × Contains u.stops e × (e.place ≡ v) × (e.tuple ≡ t) = stop_here v t (slice_get-get_or tuples v root (omega (arith, slice_get_within s.parents v (Some (p, m)) h, u.known.parents))) in
      elim (is_stop e.0 e.1).parent [
        | none path at_root ↦ absurd (let both : Some None ≡ Some (Some (p, m)) = sym at_root ∙ ap (slice_get s.parents) e.2 ∙ h in cc)
        | some f n there path from ↦
            subst (λ (q : ℕ). q < length tuples) (some_pair_parts f.place p n m (same_Some (Some (f.place, n)) (Some (p, m)) (sym from ∙ ap (slice_get s.parents) e.2 ∙ h))).0
            (slice_get_within tuples f.place f.tuple (is_stop f there).at)
      ]

  root_alone : (e : Stop) → HasParent s.parents u.stops e → Contains u.stops e → slice_get s.parents e.place ≡ Some None → e.tuple ≡ root
  root_alone e (none path at_root) c h = reached_itself (subst (λ (p : List Move). Reaches root p e.tuple) path (is_stop e c).walk)
  root_alone e (some f m there path from) c h = absurd (let both : Some None ≡ Some (Some (f.place, m)) = sym h ∙ from in cc)

  root_none : (e : Stop) → HasParent s.parents u.stops e → e.path ≡ [] → slice_get s.parents e.place ≡ Some None
  root_none e (none path at_root) h = at_root
  root_none e (some f m there path from) h = absurd (omega (arith, ap length h, ap length path, length_push f.path m))

  pub parents_whole : AreParents root tuples s.parents
  parents_whole = record {
    count = u.known.parents;
    walks = walked_to;
    none = λ v t h. (
      λ p.
          let e : (e : Stop) × Contains u.stops e × (e.place ≡ v) × (e.tuple ≡ t) = stop_here v t h in
          sym e.3 ∙ root_alone e.0 (is_stop e.0 e.1).parent e.1 (ap (slice_get s.parents) e.2 ∙ p),
      λ is.
          let b : Stop = u.known.start.stop in
          let at_b : slice_get tuples b.place ≡ Some t = (is_stop b u.known.start.found).at ∙ ap Some (u.known.start.tuple ∙ sym is) in
          ap (slice_get s.parents) (alone v b.place t h at_b) ∙ root_none b (is_stop b u.known.start.found).parent u.known.start.path,
    );
  }
