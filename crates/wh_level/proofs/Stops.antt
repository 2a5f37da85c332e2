-- One move more of the search for first walks.
use Rattle.std.proofs.Common.{◌≡◌, ◌≢◌, ◌⊎◌, ℕ, ◌+◌, ◌<◌, ◌≤◌, Bool, true, false, cond, List, [], ◌∷◌, ◌++◌, length, get_or, set, map, Some, slice_get, Contains, refl, sym, ap, ◌∙◌, subst, arith, inl, inr}
use Rattle.std.proofs.lemmas.Bool.{cases_eq, cases_lt, true≢false, cases_Bool}
use Rattle.std.proofs.lemmas.List.{length_push, map_push, get_or_push, get_or_append_left, length-set, length-map, get_or-map}
use Rattle.std.proofs.lemmas.List.Elements.{All-push, All-contains, Contains-push, Contains-append_left, Contains-get_or}
use Rattle.std.proofs.lemmas.Option.{slice_get-get_or, slice_get_within, same_Some}
use Rattle.std.proofs.lemmas.Map.Keys.{Less-from_sorted}
use Rattle.std.specs.List.{All}
use Rattle.std.specs.List.Sorted.{IsStrictlySortedBy}
use Rattle.std.specs.declared.cmp.Ordering.TheVariants.{Less}
use Rattle.wh_words.specs.Tuples.{TupleData}
use Rattle.wh_words.specs.Moves.{Move, move_cmp}
use Rattle.wh_words.specs.Action.{act}
use Rattle.wh_words.specs.Levels.{IsLevelMove}
use Rattle.wh_level.specs.Searches.{SearchData, follow, Stop, Earlier, HasParent, IsStop, IsFollowed, AllEarlier, HasStart, IsKnown}
use Rattle.wh_level.specs.Searches.HasParent.{none, some}
use Rattle.wh_level.proofs.Cells.{slice_get_set_same, slice_get_set_other, count_unseen_set}
use Rattle.wh_level.proofs.Shortlex.{no_later_itself, no_later_from, no_later_when_earlier, earlier_from, earlier_pushed, earlier_by_move, earlier_when_shorter}
use Rattle.wh_moves.proofs.Walks.{reaches_pushed}

-- Some of the moves of a stop were followed, the first so many of them.
pub record IsUnderway (root : TupleData) (tuples : List TupleData) (s : SearchData) (at place : ℕ) (t : TupleData) (moves : List Move) (j : ℕ) : Type 0 where
  pub stops : List Stop
  pub known : IsKnown root tuples s stops
  pub done : (k : ℕ) (d : Stop) → k < at → k < length stops → (m : Move) → IsLevelMove (get_or stops k d).tuple m → IsFollowed stops (get_or stops k d) m
  pub current : Stop
  pub within : at < length stops
  pub here : (d : Stop) → get_or stops at d ≡ current
  pub stands : current.place ≡ place
  pub tuple : current.tuple ≡ t
  pub followed : (i : ℕ) (d : Move) → i < j → i < length moves → IsFollowed stops current (get_or moves i d)
  pub next : (i : ℕ) (d : Move) → j ≤ i → i < length moves → AllEarlier stops (current.path ++ get_or moves i d ∷ [])
  pub later : (k : ℕ) (d : Stop) → at < k → k < length stops → (m : Move) → AllEarlier stops ((get_or stops k d).path ++ m ∷ [])

-- ---- stops by their places
module _ {root : TupleData} {tuples : List TupleData} {s : SearchData} {stops : List Stop} (known : IsKnown root tuples s stops) where
  -- a place that was seen has a stop
  pub stop_at : (v : ℕ) → slice_get s.seen v ≡ Some true → (e : Stop) × Contains stops e × (e.place ≡ v)
  stop_at v h =
      let c : Contains (map (λ (e : Stop). e.place) stops) v = subst (λ (q : List ℕ). Contains q v) known.queue (known.seen v h) in
      let within : c.0 < length stops = omega (arith, c.1, length-map stops (λ (e : Stop). e.place)) in
      let blank : Stop = record { place = 0; tuple = root; path = [] } in
      (get_or stops c.0 blank, Contains-get_or stops c.0 blank within, sym (get_or-map (λ (e : Stop). e.place) stops c.0 blank v within) ∙ c.2)

  pub stop_of : (e : Stop) → Contains stops e → IsStop root tuples s.parents stops e
  stop_of e c = All-contains (IsStop root tuples s.parents stops) stops e known.each c

  -- the place of a stop was seen
  pub stop_seen : (e : Stop) → Contains stops e → slice_get s.seen e.place ≡ Some true
  stop_seen e c =
      let at : get_or (map (λ (x : Stop). x.place) stops) c.0 0 ≡ e.place = get_or-map (λ (x : Stop). x.place) stops c.0 e 0 c.1 ∙ ap (λ (x : Stop). x.place) c.2 in
      let within : c.0 < length s.queue = omega (arith, ap length known.queue, length-map stops (λ (x : Stop). x.place), c.1) in
      subst (λ (v : ℕ). slice_get s.seen v ≡ Some true) (ap (λ (q : List ℕ). get_or q c.0 0) known.queue ∙ at) (known.queued c.0 0 within)

  -- ---- a place that was not seen before
  module _ (current : Stop) (at : ℕ) (m : Move) (to : ℕ) (within : at < length stops) (here : (d : Stop) → get_or stops at d ≡ current)
      (level : IsLevelMove current.tuple m) (leads : slice_get tuples to ≡ Some (act current.tuple m)) (ahead : AllEarlier stops (current.path ++ m ∷ [])) where
    abbrev found : Stop
    found = record { place = to; tuple = act current.tuple m; path = current.path ++ m ∷ [] }

    current_in : Contains stops current
    current_in = (at, within, here current)

    seen_followed : slice_get s.seen to ≡ Some true → IsFollowed stops current m
    seen_followed h =
        let e : (e : Stop) × Contains stops e × (e.place ≡ to) = stop_at to h in
        record {
          stop = e.0;
          found = e.1;
          is = same_Some e.0.tuple (act current.tuple m) (sym (stop_of e.0 e.1).at ∙ ap (slice_get tuples) e.2 ∙ leads);
          early = no_later_when_earlier (All-contains (λ (x : Stop). Earlier x.path (current.path ++ m ∷ [])) stops e.0 ahead e.1);
        }

    module _ (new : slice_get s.seen to ≡ Some false) where
      abbrev more : List Stop
      more = stops ++ found ∷ []

      abbrev then : SearchData
      then = record { parents = set s.parents to (Some (current.place, m)); seen = set s.seen to true; queue = s.queue ++ to ∷ [] }

      to_within : to < length tuples
      to_within = slice_get_within tuples to (act current.tuple m) leads

      apart : (e : Stop) → Contains stops e → e.place ≢ to
      apart e c is = true≢false (same_Some true false (sym (stop_seen e c) ∙ ap (slice_get s.seen) is ∙ new))

      parent_stays : (e : Stop) → Contains stops e → HasParent s.parents stops e → HasParent then.parents more e
      parent_stays e c (none path at_root) = none path (slice_get_set_other s.parents to e.place (Some (current.place, m)) (apart e c) ∙ at_root)
      parent_stays e c (some before n there path from) = some before n (Contains-append_left stops (found ∷ []) before there) path (slice_get_set_other s.parents to e.place (Some (current.place, m)) (apart e c) ∙ from)

      stop_stays : (e : Stop) → Contains stops e → IsStop root tuples then.parents more e
      stop_stays e c =
          let is : IsStop root tuples s.parents stops e = stop_of e c in
          record { at = is.at; walk = is.walk; parent = parent_stays e c is.parent }

      found_stop : IsStop root tuples then.parents more found
      found_stop = record {
        at = leads;
        walk = reaches_pushed m (stop_of current current_in).walk level;
        parent = some current m (Contains-append_left stops (found ∷ []) current current_in) refl
            (slice_get_set_same s.parents to (Some (current.place, m)) (omega (arith, known.parents, to_within)));
      }

      old : (k : ℕ) (d : Stop) → k < length stops → get_or more k d ≡ get_or stops k d
      old k d h = get_or_append_left stops (found ∷ []) d k h

      last : (k : ℕ) (d : Stop) → length stops ≤ k → k < length more → get_or more k d ≡ found
      last k d h l = get_or_push stops found d k (omega (arith, h, l, length_push stops found))

      each_stays : All (IsStop root tuples then.parents more) more
      each_stays = All-push (IsStop root tuples then.parents more) stops found (λ k d h. stop_stays (get_or stops k d) (Contains-get_or stops k d h)) found_stop

      start_stays : HasStart root more
      start_stays = record { stop = known.start.stop; found = Contains-append_left stops (found ∷ []) known.start.stop known.start.found; tuple = known.start.tuple; path = known.start.path }

      rising_stays : (j k : ℕ) (d : Stop) → j < k → k < length more → Earlier (get_or more j d).path (get_or more k d).path
      rising_stays j k d h l = elim (cases_lt k (length stops)) [
        | inl below ↦ subst (λ (e : Stop). Earlier (get_or more j d).path e.path) (sym (old k d below))
            (subst (λ (e : Stop). Earlier e.path (get_or stops k d).path) (sym (old j d (omega arith))) (known.rising j k d h below))
        | inr past ↦ subst (λ (e : Stop). Earlier (get_or more j d).path e.path) (sym (last k d past l))
            (subst (λ (e : Stop). Earlier e.path (current.path ++ m ∷ [])) (sym (old j d (omega (arith, h, l, past, length_push stops found)))) (ahead j d (omega (arith, h, l, past, length_push stops found))))
      ]

      apart_stays : (j k : ℕ) (d : Stop) → j < k → k < length more → (get_or more j d).place ≢ (get_or more k d).place
      apart_stays j k d h l = elim (cases_lt k (length stops)) [
        | inl below ↦ subst (λ (e : Stop). (get_or more j d).place ≢ e.place) (sym (old k d below))
            (subst (λ (e : Stop). e.place ≢ (get_or stops k d).place) (sym (old j d (omega arith))) (known.apart j k d h below))
        | inr past ↦ (
            let j_within : j < length stops = omega (arith, h, l, past, length_push stops found) in
            subst (λ (e : Stop). (get_or more j d).place ≢ e.place) (sym (last k d past l))
            (subst (λ (e : Stop). e.place ≢ to) (sym (old j d j_within)) (apart (get_or stops j d) (Contains-get_or stops j d j_within))))
      ]

      short_stays : (k : ℕ) (d : Stop) → k < length more → length (get_or more k d).path ≤ k
      short_stays k d l = elim (cases_lt k (length stops)) [
        | inl below ↦ subst (λ (e : Stop). length e.path ≤ k) (sym (old k d below)) (known.short k d below)
        | inr past ↦ subst (λ (e : Stop). length e.path ≤ k) (sym (last k d past l))
            (omega (arith, past, within, length_push current.path m, ap (λ (e : Stop). length e.path) (here d), known.short at d within))
      ]

      seen_stays : (v : ℕ) → slice_get then.seen v ≡ Some true → Contains then.queue v
      seen_stays v h = elim (cases_eq v to) [
        | inl e ↦ subst (Contains then.queue) (sym e) (Contains-push s.queue to)
        | inr n ↦ Contains-append_left s.queue (to ∷ []) v (known.seen v (sym (slice_get_set_other s.seen to v true n) ∙ h))
      ]

      still_seen : (v : ℕ) → slice_get s.seen v ≡ Some true → slice_get then.seen v ≡ Some true
      still_seen v h = slice_get_set_other s.seen to v true (λ e. true≢false (same_Some true false (sym h ∙ ap (slice_get s.seen) e ∙ new))) ∙ h

      known_stays : IsKnown root tuples then more
      known_stays = record {
        each = each_stays;
        start = start_stays;
        rising = rising_stays;
        apart = apart_stays;
        short = short_stays;
        queue = ap (λ (q : List ℕ). q ++ to ∷ []) known.queue ∙ sym (map_push (λ (e : Stop). e.place) stops found);
        parents = length-set s.parents to (Some (current.place, m)) ∙ known.parents;
        places = length-set s.seen to true ∙ known.places;
        seen = seen_stays;
        queued = All-push (λ v. slice_get then.seen v ≡ Some true) s.queue to (λ k d h. still_seen (get_or s.queue k d) (known.queued k d h))
            (slice_get_set_same s.seen to true (omega (arith, known.places, to_within)));
        room = omega (arith, known.room, length_push s.queue to, count_unseen_set s.seen to new);
      }

      follow_stays : (e : Stop) (n : Move) → IsFollowed stops e n → IsFollowed more e n
      follow_stays e n f = record { stop = f.stop; found = Contains-append_left stops (found ∷ []) f.stop f.found; is = f.is; early = f.early }

      found_followed : IsFollowed more current m
      found_followed = record { stop = found; found = Contains-push stops found; is = refl; early = no_later_itself (current.path ++ m ∷ []) }

      -- a walk that comes after all others and after the one that was found
      all_earlier_stays : (p : List Move) → AllEarlier stops p → Earlier (current.path ++ m ∷ []) p → AllEarlier more p
      all_earlier_stays p before one = All-push (λ (e : Stop). Earlier e.path p) stops found before one

-- ---- the moves of a stop, one by one
pub below_cases : (i j : ℕ) → i < j + 1 → (i < j) ⊎ (i ≡ j)
below_cases i j h = elim (cases_lt i j) [
  | inl l ↦ inl l
  | inr l ↦ inr (omega (arith, h, l))
]

-- The move was followed before.
module _ {root : TupleData} {tuples : List TupleData} {s : SearchData} {at place : ℕ} {t : TupleData} {moves : List Move} {j : ℕ} (u : IsUnderway root tuples s at place t moves j)
    (m : Move) (item : (d : Move) → get_or moves j d ≡ m) where
  underway_followed : IsFollowed u.stops u.current m → IsUnderway root tuples s at place t moves (j + 1)
  underway_followed followed = record {
    stops = u.stops;
    known = u.known;
    done = u.done;
    current = u.current;
    within = u.within;
    here = u.here;
    stands = u.stands;
    tuple = u.tuple;
    followed = λ i d h l. elim (below_cases i j h) [
      | inl b ↦ u.followed i d b l
      | inr e ↦ subst (λ (n : Move). IsFollowed u.stops u.current n) (sym (ap (λ k. get_or moves k d) e ∙ item d)) followed
    ];
    next = λ i d h l. u.next i d (omega (arith, h)) l;
    later = u.later;
  }

  -- It leaves the tuple as it is, or acts as a move before it.
  pub underway_before : j < length moves → IsStrictlySortedBy move_cmp moves → (act t m ≡ t) ⊎ ((k : ℕ) × (k < j) × ((d : Move) → act t (get_or moves k d) ≡ act t m)) →
      IsUnderway root tuples s at place t moves (j + 1)
  underway_before within sorted (inl same) = underway_followed (record {
    stop = u.current;
    found = (at, u.within, u.here u.current);
    is = u.tuple ∙ sym same ∙ ap (λ (x : TupleData). act x m) (sym u.tuple);
    early = no_later_when_earlier (earlier_when_shorter u.current.path (u.current.path ++ m ∷ []) (omega (arith, length_push u.current.path m)));
  })
  underway_before within sorted (inr before) =
      let n : Move = get_or moves before.0 m in
      let f : IsFollowed u.stops u.current n = u.followed before.0 m before.1 (omega (arith, before.1, within)) in
      underway_followed (record {
        stop = f.stop;
        found = f.found;
        is = f.is ∙ ap (λ (x : TupleData). act x n) u.tuple ∙ before.2 m ∙ ap (λ (x : TupleData). act x m) (sym u.tuple);
        early = no_later_from f.early
            (no_later_when_earlier (earlier_by_move u.current.path n m (subst (λ (x : Move). move_cmp n x ≡ Less) (item m) (Less-from_sorted move_cmp moves before.0 j m sorted before.1 within))));
      })

module _ {root : TupleData} {tuples : List TupleData} {s : SearchData} {at place : ℕ} {t : TupleData} {moves : List Move} {j : ℕ} (u : IsUnderway root tuples s at place t moves j)
    (m : Move) (to : ℕ) (within : j < length moves) (item : (d : Move) → get_or moves j d ≡ m) (sorted : IsStrictlySortedBy move_cmp moves)
    (level : IsLevelMove t m) (leads : slice_get tuples to ≡ Some (act t m)) where
  abbrev stops : List Stop
  stops = u.stops

  level_here : IsLevelMove u.current.tuple m
  level_here = subst (λ (x : TupleData). IsLevelMove x m) (sym u.tuple) level

  leads_here : slice_get tuples to ≡ Some (act u.current.tuple m)
  leads_here = leads ∙ ap (λ x. Some (act x m)) (sym u.tuple)

  ahead : AllEarlier stops (u.current.path ++ m ∷ [])
  ahead = subst (λ (n : Move). AllEarlier stops (u.current.path ++ n ∷ [])) (item m) (u.next j m (omega arith) within)

  pub underway_seen : slice_get s.seen to ≡ Some true → IsUnderway root tuples s at place t moves (j + 1)
  underway_seen seen = underway_followed u m item (seen_followed u.known u.current at m to u.within u.here level_here leads_here ahead seen)

  module _ (new : slice_get s.seen to ≡ Some false) where
    abbrev grown : List Stop
    grown = more u.known u.current at m to u.within u.here level_here leads_here ahead new

    abbrev after : SearchData
    after = record { parents = set s.parents to (Some (place, m)); seen = set s.seen to true; queue = s.queue ++ to ∷ [] }

    keeps : (e : Stop) (n : Move) → IsFollowed stops e n → IsFollowed grown e n
    keeps = follow_stays u.known u.current at m to u.within u.here level_here leads_here ahead new

    same : (k : ℕ) (d : Stop) → k < length stops → get_or grown k d ≡ get_or stops k d
    same = old u.known u.current at m to u.within u.here level_here leads_here ahead new

    comes_after : (p : List Move) → AllEarlier stops p → Earlier (u.current.path ++ m ∷ []) p → AllEarlier grown p
    comes_after = all_earlier_stays u.known u.current at m to u.within u.here level_here leads_here ahead new

    one_longer : (p : List Move) (n : Move) → Earlier p (p ++ n ∷ [])
    one_longer p n = earlier_when_shorter p (p ++ n ∷ []) (omega (arith, length_push p n))

    done_stays : (k : ℕ) (d : Stop) → k < at → k < length grown → (n : Move) → IsLevelMove (get_or grown k d).tuple n → IsFollowed grown (get_or grown k d) n
    done_stays k d h l = subst (λ (e : Stop). (n : Move) → IsLevelMove e.tuple n → IsFollowed grown e n) (sym (same k d (omega (arith, h, u.within))))
        (λ n v. keeps (get_or stops k d) n (u.done k d h (omega (arith, h, u.within)) n v))

    followed_stays : (i : ℕ) (d : Move) → i < j + 1 → i < length moves → IsFollowed grown u.current (get_or moves i d)
    followed_stays i d h l = elim (below_cases i j h) [
      | inl b ↦ keeps u.current (get_or moves i d) (u.followed i d b l)
      | inr e ↦ subst (λ (n : Move). IsFollowed grown u.current n) (sym (ap (λ k. get_or moves k d) e ∙ item d)) (found_followed u.known u.current at m to u.within u.here level_here leads_here ahead new)
    ]

    next_stays : (i : ℕ) (d : Move) → j + 1 ≤ i → i < length moves → AllEarlier grown (u.current.path ++ get_or moves i d ∷ [])
    next_stays i d h l =
        comes_after (u.current.path ++ get_or moves i d ∷ []) (u.next i d (omega (arith, h)) l)
        (earlier_by_move u.current.path m (get_or moves i d) (subst (λ (n : Move). move_cmp n (get_or moves i d) ≡ Less) (item d) (Less-from_sorted move_cmp moves j i d sorted (omega (arith, h)) l)))

    later_stays : (k : ℕ) (d : Stop) → at < k → k < length grown → (n : Move) → AllEarlier grown ((get_or grown k d).path ++ n ∷ [])
    later_stays k d h l n = elim (cases_lt k (length stops)) [
      | inl below ↦ subst (λ (e : Stop). AllEarlier grown (e.path ++ n ∷ [])) (sym (same k d below))
          (comes_after ((get_or stops k d).path ++ n ∷ []) (u.later k d h below n)
          (earlier_pushed m n (subst (λ (e : Stop). Earlier e.path (get_or stops k d).path) (u.here d) (u.known.rising at k d h below))))
      | inr past ↦ subst (λ (e : Stop). AllEarlier grown (e.path ++ n ∷ [])) (sym (last u.known u.current at m to u.within u.here level_here leads_here ahead new k d past l))
          (comes_after ((u.current.path ++ m ∷ []) ++ n ∷ []) (λ i e b. earlier_from (ahead i e b) (one_longer (u.current.path ++ m ∷ []) n)) (one_longer (u.current.path ++ m ∷ []) n))
    ]

    pub underway_new : IsUnderway root tuples after at place t moves (j + 1)
    underway_new = record {
      stops = grown;
      known = subst (λ (p : ℕ). IsKnown root tuples (record { parents = set s.parents to (Some (p, m)); seen = set s.seen to true; queue = s.queue ++ to ∷ [] }) grown) u.stands
          (known_stays u.known u.current at m to u.within u.here level_here leads_here ahead new);
      done = done_stays;
      current = u.current;
      within = omega (arith, u.within, length_push stops (found u.known u.current at m to u.within u.here level_here leads_here ahead));
      here = λ d. same at d u.within ∙ u.here d;
      stands = u.stands;
      tuple = u.tuple;
      followed = followed_stays;
      next = next_stays;
      later = later_stays;
    }

  pub underway_more : IsUnderway root tuples (follow s place m to) at place t moves (j + 1)
  underway_more =
      let read : slice_get s.seen to ≡ Some (get_or s.seen to false) = slice_get-get_or s.seen to false (omega (arith, u.known.places, slice_get_within tuples to (act t m) leads)) in
      elim (cases_Bool (get_or s.seen to false)) [
        | inl e ↦ subst (λ (b : Bool). IsUnderway root tuples (cond b s (record { parents = set s.parents to (Some (place, m)); seen = set s.seen to true; queue = s.queue ++ to ∷ [] })) at place t moves (j + 1)) (sym e) (underway_seen (read ∙ ap Some e))
        | inr e ↦ subst (λ (b : Bool). IsUnderway root tuples (cond b s (record { parents = set s.parents to (Some (place, m)); seen = set s.seen to true; queue = s.queue ++ to ∷ [] })) at place t moves (j + 1)) (sym e) (underway_new (read ∙ ap Some e))
      ]
