-- The tuples of a level take other places, and their parents with them.
use Rattle.std.proofs.Common.{◌≡◌, ◌↔◌, ℕ, ◌+◌, ◌<◌, ◌≤◌, List, [], ◌∷◌, ◌++◌, length, get_or, set, rules, Option, Some, None, Result, Ok, Err, slice_get, Contains, refl, sym, ap, ◌∙◌, subst, arith, inl, inr}
use Rattle.std.proofs.lemmas.Bool.{cases_lt, true≢false}
use Rattle.std.specs.Prelude.{IsSome, IfOk}
use Rattle.std.specs.Option.{MatchOption}
use Rattle.std.proofs.lemmas.List.{length-set, length-map, length_push, get_or_push, get_or_append_left}
use Rattle.std.proofs.lemmas.Cmp.{eq_by_cmp_equiv}
use Rattle.std.proofs.lemmas.List.Elements.{Contains-get_or}
use Rattle.std.proofs.lemmas.List.Sorted.{Contains-permutation, IsPermutation-sym, length_permutation}
use Rattle.std.proofs.lemmas.Map.Keys.{apart_from_distinct, IsDistinct-from_sorted, IsDistinct-IsPermutation}
use Rattle.std.proofs.lemmas.Option.{slice_get-get_or, slice_get_within, get_or_from_slice_get, same_Some}
use Rattle.std.specs.List.{All, IsDistinct}
use Rattle.std.specs.List.Sorted.{IsStrictlySortedBy, IsPermutation}
use Rattle.std.specs.Ordering.{eq_by_cmp, is_eq}
use Rattle.wh_words.specs.Tuples.{TupleData, Tuple, tuple_cmp}
use Rattle.wh_words.specs.Moves.{Move}
use Rattle.wh_words.specs.Levels.{InLevel, IsLevel}
use Rattle.wh_words.proofs.SameTuples.{tuple_cmp_total, tied_with_itself}
use Rattle.wh_sets.specs.TupleSets.{HaveSameTuples}
use Rattle.wh_sets.proofs.SetLists.{plains, plain_at}
use Rattle.wh_level.specs.Trees.{LevelData, Parents, LeadsBack, IsWalkedTo, AreParents, moved_parent, AreMoved, AreOtherPlaces, AreWithin}
use Rattle.wh_level.specs.Trees.LeadsBack.{root as back_at_root, step as back_step}
use Rattle.wh_level.specs.PlacedTuples.{ArePlaces}
use Rattle.wh_level.proofs.Cells.{slice_get_set_same, slice_get_set_other, slice_get_last}
use Rattle.wh_level.specs.GrowingLevels.{GrowingData, HasGoneOver}
use Rattle.wh_level.proofs.Growth.{gone_within}
use Rattle.wh_level.proofs.SearchEnds.{AreAlone, same_places, level_exact, parents_within, parents_whole}

-- ---- different tuples
pub alone_from_distinct : (ts : List TupleData) → IsDistinct (eq_by_cmp tuple_cmp) ts → AreAlone ts
alone_from_distinct ts distinct v w t h k = elim (cases_lt v w) [
  | inl l ↦ absurd (twice v w h k l)
  | inr l ↦ elim (cases_lt w v) [
    | inl m ↦ absurd (twice w v k h m)
    | inr m ↦ omega (arith, l, m)
  ]
]
  where
    twice : (a b : ℕ) → slice_get ts a ≡ Some t → slice_get ts b ≡ Some t → a < b → ⊥
    twice a b p q l =
        true≢false
        (sym (ap is_eq (tied_with_itself t))
        ∙ sym (ap (λ (x : TupleData). eq_by_cmp tuple_cmp x t) (get_or_from_slice_get ts a t t p))
        ∙ sym (ap (λ (y : TupleData). eq_by_cmp tuple_cmp (get_or ts a t) y) (get_or_from_slice_get ts b t t q))
        ∙ apart_from_distinct (eq_by_cmp tuple_cmp) ts a b t distinct l (slice_get_within ts b t q))

-- ---- the places of tuples in another list
pub places_start : (ts us : List TupleData) → ts ≡ [] → ArePlaces ts us []
places_start ts us e = record { count = sym (ap length e); stands = λ k t h. absurd (omega (arith, ap length e, slice_get_within ts k t h)) }

module _ (ts us : List TupleData) (places : List ℕ) (are : ArePlaces ts us places) where
  -- the place of one tuple more
  pub places_more : (t : TupleData) (v : ℕ) → slice_get us v ≡ Some t → ArePlaces (ts ++ t ∷ []) us (places ++ v ∷ [])
  places_more t v at = record {
    count = omega (arith, are.count, length_push ts t, length_push places v);
    stands = λ k x h. elim (cases_lt k (length ts)) [
      | inl l ↦ ap (slice_get us) (get_or_append_left places (v ∷ []) 0 k (omega (arith, l, are.count)))
          ∙ are.stands k x (slice_get-get_or ts k x l ∙ ap Some (sym (get_or_append_left ts (t ∷ []) x k l) ∙ get_or_from_slice_get (ts ++ t ∷ []) k x x h))
      | inr l ↦ (
          let here : k ≡ length ts = omega (arith, l, slice_get_within (ts ++ t ∷ []) k x h, length_push ts t) in
          ap (slice_get us) (get_or_push places v 0 k (omega (arith, here, are.count)))
          ∙ at ∙ sym (slice_get_last ts t k (sym here)) ∙ h)
    ];
  }

  -- Different tuples have different places.
  pub other_places : (d : TupleData) → AreAlone ts → length ts ≡ length us → AreOtherPlaces places
  other_places d alone same = record {
    within = λ k h. omega (arith, slice_get_within us (get_or places k 0) (get_or ts k d) (stands_at k h), same, are.count);
    apart = λ j k l h e.
        let both : get_or ts j d ≡ get_or ts k d = same_Some (get_or ts j d) (get_or ts k d) (sym (stands_at j (omega (arith, l, h))) ∙ ap (slice_get us) e ∙ stands_at k h) in
        omega (arith, l, alone j k (get_or ts k d) (slice_get-get_or ts j d (omega (arith, l, h, are.count)) ∙ ap Some both) (slice_get-get_or ts k d (omega (arith, h, are.count))));
  }
    where
      stands_at : (k : ℕ) → k < length places → slice_get us (get_or places k 0) ≡ Some (get_or ts k d)
      stands_at k h = are.stands k (get_or ts k d) (slice_get-get_or ts k d (omega (arith, h, are.count)))

-- Each tuple of a list has a place in another that has them all.
pub has_place : (ts : List Tuple) (us : List TupleData) (k : ℕ) (t : Tuple) (r : Option ℕ) → All (Contains us) (plains ts) → k < length ts → t ≡ get_or ts k t → MatchOption r (¬ (Contains us t.plain)) (λ v. slice_get us v ≡ Some t.plain) → IsSome r
has_place ts us k t None all within is absent =
    absurd (absent (subst (Contains us) (plain_at ts k t t.plain within ∙ sym (ap (λ (x : Tuple). x.plain) is)) (all k t.plain (omega (arith, within, length-map ts (λ (x : Tuple). x.plain))))))
has_place ts us k t (Some v) all within is found = search rules

-- ---- parents
pub moved_start : (places : List ℕ) (parents moved : Parents) → length moved ≡ length places → AreMoved places parents 0 moved
moved_start places parents moved e = record { count = e; each = λ k h. absurd (omega (arith, h)) }

pub moved_more : (places : List ℕ) (parents moved : Parents) (n : ℕ) (p : Option (ℕ × Move)) → AreOtherPlaces places → n < length places → p ≡ moved_parent places (get_or parents n None) → AreMoved places parents n moved
    → AreMoved places parents (n + 1) (set moved (get_or places n 0) p)
moved_more places parents moved n p other within is before = record {
  count = length-set moved (get_or places n 0) p ∙ before.count;
  each = λ k h. elim (cases_lt k n) [
    | inl l ↦ slice_get_set_other moved (get_or places n 0) (get_or places k 0) p (other.apart k n l within) ∙ before.each k l
    | inr l ↦ subst (λ (i : ℕ). slice_get (set moved (get_or places n 0) p) (get_or places i 0) ≡ Some (moved_parent places (get_or parents i None))) (omega (arith, h, l))
        (slice_get_set_same moved (get_or places n 0) p (omega (arith, before.count, other.within n within)) ∙ ap Some is)
  ];
}

module _ {root : TupleData} {ts us : List TupleData} {parents moved : Parents} {places : List ℕ} (are : AreParents root ts parents) (at : ArePlaces ts us places) (sorted : IsStrictlySortedBy tuple_cmp us)
    (same : HaveSameTuples us ts) (count : length ts ≡ length us) (moves : AreMoved places parents (length places) moved) where
  moved_at : (v : ℕ) (p : Option (ℕ × Move)) → slice_get parents v ≡ Some p → slice_get moved (get_or places v 0) ≡ Some (moved_parent places p)
  moved_at v p h =
      moves.each v (omega (arith, at.count, are.count, slice_get_within parents v p h))
      ∙ ap (λ q. Some (moved_parent places q)) (get_or_from_slice_get parents v p None h)

  leads_moved : {v : ℕ} {back : List Move} → LeadsBack parents v back → LeadsBack moved (get_or places v 0) back
  leads_moved {v} (back_at_root h) = back_at_root (moved_at v None h)
  leads_moved {v} (back_step {p = p} {m = m} h rest) = back_step (moved_at v (Some (p, m)) h) (leads_moved rest)

  -- where a tuple stood before
  stood : (v : ℕ) (t : TupleData) → slice_get us v ≡ Some t → (k : ℕ) × (slice_get ts k ≡ Some t) × (get_or places k 0 ≡ v)
  stood v t h =
      let c : Contains ts t = (same t).0 (v, slice_get_within us v t h, get_or_from_slice_get us v t t h) in
      let there : slice_get ts c.0 ≡ Some t = slice_get-get_or ts c.0 t c.1 ∙ ap Some c.2 in
      (c.0, there, same_places us (get_or places c.0 0) v t sorted (at.stands c.0 t there) h)

  walked_moved : (v : ℕ) (t : TupleData) → slice_get us v ≡ Some t → IsWalkedTo root moved v t
  walked_moved v t h =
      let s = stood v t h in
      let w : IsWalkedTo root parents s.0 t = are.walks s.0 t s.1 in
      record { back = w.back; leads = subst (λ (k : ℕ). LeadsBack moved k w.back) s.2 (leads_moved w.leads); first = w.first; short = omega (arith, w.short, moves.count, at.count, are.count) }

  was_none : (p : Option (ℕ × Move)) → moved_parent places p ≡ None → p ≡ None
  was_none None e = refl
  was_none (Some p) e = absurd (cc)

  pub parents_moved : AreParents root us moved
  parents_moved = record {
    count = omega (arith, moves.count, at.count, count);
    walks = walked_moved;
    none = λ v t h.
        let s = stood v t h in
        let within : s.0 < length parents = omega (arith, are.count, slice_get_within ts s.0 t s.1) in
        let q : Option (ℕ × Move) = get_or parents s.0 None in
        let is : slice_get parents s.0 ≡ Some q = slice_get-get_or parents s.0 None within in
        let put : slice_get moved v ≡ Some (moved_parent places q) = ap (slice_get moved) (sym s.2) ∙ moved_at s.0 q is in (
          λ e. (are.none s.0 t s.1).0 (is ∙ ap Some (was_none q (same_Some (moved_parent places q) None (sym put ∙ e)))),
          λ e. put ∙ ap (λ p. Some (moved_parent places p)) (same_Some q None (sym is ∙ (are.none s.0 t s.1).1 e)),
        );
  }

-- ---- sorted tuples
pub same_sorted : (old new : List TupleData) → IsPermutation old new → HaveSameTuples new old
same_sorted old new moved t = (λ c. Contains-permutation new old t (IsPermutation-sym old new moved) c, λ c. Contains-permutation old new t moved c)

pub distinct_before : (old new : List TupleData) → IsPermutation old new → IsStrictlySortedBy tuple_cmp new → AreAlone old
distinct_before old new moved sorted =
    alone_from_distinct old
    (IsDistinct-IsPermutation (eq_by_cmp tuple_cmp) (eq_by_cmp_equiv tuple_cmp_total).symm new old (IsPermutation-sym old new moved) (IsDistinct-from_sorted tuple_cmp new sorted))

-- ---- the level of tuples that were all gone over
module _ {root : TupleData} {g : GrowingData} (gone : HasGoneOver root g (length g.tuples)) (new : List TupleData) (permuted : IsPermutation g.tuples new) (sorted : IsStrictlySortedBy tuple_cmp new) where
  all : length gone.search.queue ≤ length g.tuples
  all = omega (arith, gone.found.count)

  alone : AreAlone g.tuples
  alone = distinct_before g.tuples new permuted sorted

  inside : All (InLevel root) g.tuples
  inside = gone_within gone

  exact : (t : TupleData) → Contains g.tuples t ↔ InLevel root t
  exact = level_exact gone.searched all inside alone

  same : HaveSameTuples new g.tuples
  same = same_sorted g.tuples new permuted

  pub closed_level : IsLevel root new
  closed_level = record { sorted = sorted; exact = λ t. (λ c. (exact t).0 ((same t).0 c), λ r. (same t).1 ((exact t).1 r)) }

  count : length g.tuples ≡ length new
  count = sym (length_permutation g.tuples new permuted)

  pub closed_count : {E : Type 0} (r : Result LevelData E) → IfOk r (λ l. l.tuples ≡ new) → {n : ℕ} → length g.tuples ≡ n → IfOk r (λ l. length l.tuples ≡ n)
  closed_count (Ok l) e is = ap length e ∙ sym count ∙ is
  closed_count (Err x) e is = tt

  pub parents_count : length g.parents ≡ length g.tuples
  parents_count = sym (ap length gone.found.parents) ∙ gone.searched.known.parents

  pub parents_before : AreWithin (length g.tuples) g.parents
  parents_before = subst (AreWithin (length g.tuples)) gone.found.parents (parents_within gone.searched all inside alone)

  pub all_there : (ts : List TupleData) → ts ≡ g.tuples → All (Contains new) ts
  all_there ts e = subst (All (Contains new)) (sym e) (λ k d h. (same (get_or g.tuples k d)).1 (Contains-get_or g.tuples k d h))

  module _ (ts : List TupleData) (copies : ts ≡ g.tuples) (places : List ℕ) (at : ArePlaces ts new places) where
    stand : ArePlaces g.tuples new places
    stand = subst (λ (us : List TupleData). ArePlaces us new places) copies at

    pub closed_places : AreOtherPlaces places
    closed_places = other_places g.tuples new places stand root alone count

    pub closed_parents : (moved : Parents) → AreMoved places g.parents (length places) moved → AreParents root new moved
    closed_parents moved are =
        parents_moved (subst (AreParents root g.tuples) gone.found.parents (parents_whole gone.searched all inside alone)) stand sorted same count are
