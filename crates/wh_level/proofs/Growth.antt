-- A level grows by one tuple after another, for `GrowingLevel`.
use Rattle.std.proofs.Common.{◌≡◌, ℕ, ◌+◌, ◌<◌, ◌≤◌, true, false, List, [], ◌∷◌, ◌++◌, length, get_or, set, Some, None, slice_get, Contains, refl, sym, ap, ◌∙◌, subst, arith, inl, inr}
use Rattle.std.proofs.lemmas.Bool.{cases_lt}
use Rattle.std.proofs.lemmas.List.{length_push, length-map, get_or_read, set_at}
use Rattle.std.proofs.lemmas.List.Elements.{All-weaker}
use Rattle.std.proofs.lemmas.Option.{slice_get-get_or, slice_get_within, get_or_from_slice_get}
use Rattle.std.specs.List.{All}
use Rattle.wh_words.specs.Tuples.{TupleData, IsTuple}
use Rattle.wh_words.specs.Moves.{Move}
use Rattle.wh_words.specs.Action.{act}
use Rattle.wh_words.specs.Levels.{InLevel}
use Rattle.wh_sets.specs.TupleSets.{IsAdded}
use Rattle.wh_expand.specs.Rows.{AreLevelMoves}
use Rattle.wh_expand.specs.TurnedCuts.{IsTurnedCut}
use Rattle.wh_expand.proofs.TurnedMoves.{turned_acts_before}
use Rattle.wh_level.specs.Searches.{SearchData, Stop, HasParent, IsStop, IsKnown}
use Rattle.wh_level.specs.Searches.HasParent.{none, some}
use Rattle.wh_level.specs.GrowingLevels.{GrowingData, IsMet, IsFoundInTurn, HasGoneOver, GoesOn}
use Rattle.wh_level.proofs.Cells.{slice_get_set_same, slice_get_set_other, count_unseen_push, slice_get_before, slice_get_last, true_before_false}
use Rattle.wh_level.proofs.SearchEnds.{searched_at_start, underway_start, underway_end}
use Rattle.wh_level.proofs.Stops.{IsUnderway, stop_at, stop_of, underway_before, underway_seen, underway_new}

-- ---- a tuple more, to which no move was followed yet
abbrev grown : SearchData → SearchData
grown s = record { parents = s.parents ++ None ∷ []; seen = s.seen ++ false ∷ []; queue = s.queue }

module _ {root : TupleData} {tuples : List TupleData} {s : SearchData} {stops : List Stop} (known : IsKnown root tuples s stops) (t : TupleData) where
  parent_stays : (e : Stop) → HasParent s.parents stops e → HasParent (s.parents ++ None ∷ []) stops e
  parent_stays e (none path at_root) = none path (slice_get_before s.parents (None ∷ []) e.place None at_root)
  parent_stays e (some f m there path from) = some f m there path (slice_get_before s.parents (None ∷ []) e.place (Some (f.place, m)) from)

  stop_stays : (e : Stop) → IsStop root tuples s.parents stops e → IsStop root (tuples ++ t ∷ []) (s.parents ++ None ∷ []) stops e
  stop_stays e is = record { at = slice_get_before tuples (t ∷ []) e.place e.tuple is.at; walk = is.walk; parent = parent_stays e is.parent }

  known_grown : IsKnown root (tuples ++ t ∷ []) (grown s) stops
  known_grown = record {
    each = All-weaker (IsStop root tuples s.parents stops) (IsStop root (tuples ++ t ∷ []) (s.parents ++ None ∷ []) stops) stop_stays stops known.each;
    start = known.start;
    rising = known.rising;
    apart = known.apart;
    short = known.short;
    queue = known.queue;
    parents = omega (arith, known.parents, length_push s.parents None, length_push tuples t);
    places = omega (arith, known.places, length_push s.seen false, length_push tuples t);
    seen = λ v h. known.seen v (true_before_false s.seen v h);
    queued = All-weaker (λ v. slice_get s.seen v ≡ Some true) (λ v. slice_get (s.seen ++ false ∷ []) v ≡ Some true) (λ v h. slice_get_before s.seen (false ∷ []) v true h) s.queue known.queued;
    room = omega (arith, known.room, count_unseen_push s.seen, length_push tuples t);
  }

underway_grown : {root : TupleData} {tuples : List TupleData} {s : SearchData} {at place : ℕ} {t : TupleData} {moves : List Move} {j : ℕ} → IsUnderway root tuples s at place t moves j → (u : TupleData) →
    IsUnderway root (tuples ++ u ∷ []) (grown s) at place t moves j
underway_grown w u = record {
  stops = w.stops;
  known = known_grown w.known u;
  done = w.done;
  current = w.current;
  within = w.within;
  here = w.here;
  stands = w.stands;
  tuple = w.tuple;
  followed = w.followed;
  next = w.next;
  later = w.later;
}

-- ---- the start
one_place : (k : ℕ) → k < 1 → k ≡ 0
one_place k h = omega (arith, h)

pub gone_start : (root : TupleData) → HasGoneOver root (record { tuples = root ∷ []; parents = None ∷ [] }) 0
gone_start root = record {
  within = omega arith;
  search = record { parents = None ∷ []; seen = true ∷ []; queue = 0 ∷ [] };
  searched = searched_at_start root (root ∷ []) 0 refl;
  found = record {
    parents = refl;
    count = refl;
    queue = λ k h. subst (λ (i : ℕ). slice_get (0 ∷ []) i ≡ Some i) (sym (one_place k h)) refl;
    seen = λ k h. subst (λ (i : ℕ). slice_get (true ∷ []) i ≡ Some true) (sym (one_place k h)) refl;
  };
}

pub first_added : (old first : List TupleData) (t : TupleData) → old ≡ [] → IsAdded old t first → first ≡ t ∷ []
first_added old first t e (inl a) = absurd (omega (arith, ap length e, a.0.1))
first_added old first t e (inr a) = a.1 ∙ ap (λ ts. ts ++ t ∷ []) e

-- ---- the moves of a tuple, one by one
-- Some of the moves of the tuple at a place were followed, the first so many of them.
pub record IsGrowing (root : TupleData) (g : GrowingData) (at : ℕ) (t : TupleData) (moves : List Move) (j : ℕ) : Type 0 where
  pub search : SearchData
  pub underway : IsUnderway root g.tuples search at at t moves j
  pub found : IsFoundInTurn search g

pub growing_start : {root : TupleData} {g : GrowingData} {at : ℕ} → HasGoneOver root g at → (t : TupleData) (moves : List Move) → slice_get g.tuples at ≡ Some t → IsGrowing root g at t moves 0
growing_start {g = g} {at = at} h t moves stands =
    let within : at < length g.tuples = slice_get_within g.tuples at t stands in
    record {
      search = h.search;
      underway = underway_start h.searched at t moves (omega (arith, h.found.count, within)) (get_or_from_slice_get h.search.queue at at at (h.found.queue at within)) stands;
      found = h.found;
    }

module _ {root : TupleData} {g : GrowingData} {at : ℕ} {t : TupleData} {moves : List Move} {j : ℕ} (u : IsGrowing root g at t moves j)
    (m : Move) (row : AreLevelMoves t moves) (within : j < length moves) (item : m ≡ get_or moves j m) where
  item_at : (d : Move) → get_or moves j d ≡ m
  item_at d = sym (get_or_read moves j m within item d)

  growing_known : Contains g.tuples (act t m) → IsGrowing root g at t moves (j + 1)
  growing_known c = record {
    search = u.search;
    underway = underway_seen u.underway m c.0 within item_at row.sorted ((row.exact m).0 (j, within, sym item)) (slice_get-get_or g.tuples c.0 (act t m) c.1 ∙ ap Some c.2) (u.found.seen c.0 c.1);
    found = u.found;
  }

  abbrev s : SearchData
  s = u.search

  abbrev n : ℕ
  n = length g.tuples

  abbrev more : GrowingData
  more = record { tuples = g.tuples ++ act t m ∷ []; parents = g.parents ++ Some (at, m) ∷ [] }

  seen_cells : length s.seen ≡ n
  seen_cells = u.underway.known.places

  queue_more : (k : ℕ) → k < length more.tuples → slice_get (s.queue ++ n ∷ []) k ≡ Some k
  queue_more k h = elim (cases_lt k n) [
    | inl l ↦ slice_get_before s.queue (n ∷ []) k k (u.found.queue k l)
    | inr l ↦ subst (λ (i : ℕ). slice_get (s.queue ++ n ∷ []) i ≡ Some i) (omega (arith, h, l, length_push g.tuples (act t m))) (slice_get_last s.queue n n u.found.count)
  ]

  seen_more : (k : ℕ) → k < length more.tuples → slice_get (set (s.seen ++ false ∷ []) n true) k ≡ Some true
  seen_more k h = elim (cases_lt k n) [
    | inl l ↦ slice_get_set_other (s.seen ++ false ∷ []) n k true (λ e. omega (arith, e, l)) ∙ slice_get_before s.seen (false ∷ []) k true (u.found.seen k l)
    | inr l ↦ subst (λ (i : ℕ). slice_get (set (s.seen ++ false ∷ []) n true) i ≡ Some true) (omega (arith, h, l, length_push g.tuples (act t m)))
        (slice_get_set_same (s.seen ++ false ∷ []) n true (omega (arith, length_push s.seen false, seen_cells)))
  ]

  growing_new : IsGrowing root more at t moves (j + 1)
  growing_new = record {
    search = record { parents = set (s.parents ++ None ∷ []) n (Some (at, m)); seen = set (s.seen ++ false ∷ []) n true; queue = s.queue ++ n ∷ [] };
    underway = underway_new (underway_grown u.underway (act t m)) m n within item_at row.sorted ((row.exact m).0 (j, within, sym item)) (slice_get_last g.tuples (act t m) n refl)
        (slice_get_last s.seen false n seen_cells);
    found = record {
      parents = set_at s.parents None [] (Some (at, m)) n u.underway.known.parents ∙ ap (λ ps. ps ++ Some (at, m) ∷ []) u.found.parents;
      count = omega (arith, length_push s.queue n, length_push g.tuples (act t m), u.found.count);
      queue = queue_more;
      seen = seen_more;
    };
  }

  pub growing_met : (new : GrowingData) → IsMet g at m (act t m) new → IsGrowing root new at t moves (j + 1)
  growing_met new (inl a) = subst (λ (x : GrowingData). IsGrowing root x at t moves (j + 1)) (sym a.1) (growing_known a.0)
  growing_met new (inr b) = subst (λ (x : GrowingData). IsGrowing root x at t moves (j + 1)) (sym b.1) growing_new

  -- A turned cut needn't be followed.
  pub growing_turned : IsTuple t → IsTurnedCut m.kind → IsGrowing root g at t moves (j + 1)
  growing_turned is turned = record {
    search = u.search;
    underway = underway_before u.underway m item_at within row.sorted (turned_acts_before t moves j m is row within item turned);
    found = u.found;
  }

-- ---- the end of a tuple, and before it
stops_count : {root : TupleData} {tuples : List TupleData} {s : SearchData} {stops : List Stop} → IsKnown root tuples s stops → length s.queue ≡ length stops
stops_count {stops = stops} known = ap length known.queue ∙ length-map stops (λ (e : Stop). e.place)

within_level : {root : TupleData} {g : GrowingData} {s : SearchData} {stops : List Stop} → IsKnown root g.tuples s stops → IsFoundInTurn s g → All (InLevel root) g.tuples
within_level {root} {g} known found k d h =
    let e = stop_at known k (found.seen k h) in
    let is = stop_of known e.0 e.1 in
    subst (InLevel root) (sym (get_or_from_slice_get g.tuples k e.0.tuple d (sym (ap (slice_get g.tuples) e.2) ∙ is.at))) (e.0.path, is.walk)

pub gone_within : {root : TupleData} {g : GrowingData} {at : ℕ} → HasGoneOver root g at → All (InLevel root) g.tuples
gone_within h = within_level h.searched.known h.found

pub growing_past : {root : TupleData} {g : GrowingData} {at : ℕ} {t : TupleData} {moves : List Move} {j : ℕ} (limit : ℕ) → IsGrowing root g at t moves j → limit < length g.tuples → GoesOn root limit g (at + 1)
growing_past limit u h = inr (h, within_level u.underway.known u.found)

pub growing_end : {root : TupleData} {g : GrowingData} {at : ℕ} {t : TupleData} {moves : List Move} {j : ℕ} (limit : ℕ) → IsGrowing root g at t moves j → AreLevelMoves t moves → length moves ≤ j → GoesOn root limit g (at + 1)
growing_end limit u row all = inl (record { within = omega (arith, u.underway.within, u.found.count, stops_count u.underway.known); search = u.search; searched = underway_end u.underway all (λ m l. (row.exact m).1 l); found = u.found })
