-- What a set of tuples, as the crate `indexmap` holds it, tells of the list of their data.
use Rattle.std.proofs.Common.{◌≡◌, ℕ, ◌<◌, ◌≤◌, Bool, true, false, ◌||◌, List, [], ◌∷◌, ◌++◌, length, get_or, map, Option, Some, None, slice_get, Contains, position, refl, sym, ap, ◌∙◌, inl, inr, arith, IsTrue, ◌↔◌, if◌then◌else◌}
use Rattle.std.proofs.lemmas.Bool.{true≢false}
use Rattle.std.proofs.lemmas.Bool.Decides.{nat_tests}
use Rattle.std.proofs.lemmas.Cmp.{eq_by_cmp_equiv}
use Rattle.std.proofs.lemmas.List.{length-map, get_or-map, map-append}
use Rattle.std.proofs.lemmas.List.Quantifiers.{position-Some}
use Rattle.std.proofs.lemmas.List.Sums.{fails_before_first}
use Rattle.std.proofs.lemmas.Map.Views.{list_any-from_Contains}
use Rattle.std.proofs.lemmas.Option.{slice_get-get_or, slice_get_within, get_or_from_slice_get}
use Rattle.std.specs.List.{IsDistinct, AllByRecursion, list_any, position_or_len}
use Rattle.std.specs.Option.{MatchOption}
use Rattle.std.specs.Ordering.{is_eq, eq_by_cmp}
use Rattle.indexmap.specs.IndexSet.{insert_key}
use Rattle.indexmap.proofs.CallerLemmas.{Contains-list_any}
use Rattle.wh_words.specs.Tuples.{TupleData, Tuple, own_room, tuple_cmp, tuple_order}
use Rattle.wh_words.proofs.SameTuples.{tuple_cmp_total, tied, tied_with_itself}
use Rattle.wh_sets.specs.TupleSets.{IsAdded}

-- What a list has at a place is in it.
pub contains_at : (ts : List TupleData) (k : ℕ) (t : TupleData) → slice_get ts k ≡ Some t → Contains ts t
contains_at ts k t e = (k, slice_get_within ts k t e, get_or_from_slice_get ts k t t e)

-- The data of tuples.
abbrev pub plains : List Tuple → List TupleData
plains ts = map (λ t. t.plain) ts

-- What stands at a place among the data is the data of what stands there.
pub plain_at : (ts : List Tuple) (k : ℕ) (d : Tuple) (e : TupleData) → k < length ts → get_or (plains ts) k e ≡ (get_or ts k d).plain
plain_at ts k d e l = get_or-map (λ (t : Tuple). t.plain) ts k d e l

apart_plains : (t : Tuple) (ts : List Tuple) → AllByRecursion (λ u. eq_by_cmp tuple_order t u ≡ false) ts → AllByRecursion (λ u. eq_by_cmp tuple_cmp t.plain u ≡ false) (plains ts)
apart_plains t [] h = h
apart_plains t (u ∷ ts) h = (h.0, apart_plains t ts h.1)

pub distinct_plains : (ts : List Tuple) → IsDistinct (eq_by_cmp tuple_order) ts → IsDistinct (eq_by_cmp tuple_cmp) (plains ts)
unfolding IsDistinct
distinct_plains [] h = h
distinct_plains (t ∷ ts) h = (apart_plains t ts h.0, distinct_plains ts h.1)

-- ---- whether a tuple is there
any_plain : (ts : List Tuple) (t : Tuple) → list_any (eq_by_cmp tuple_order t) ts ≡ list_any (eq_by_cmp tuple_cmp t.plain) (plains ts)
any_plain [] t = refl
any_plain (u ∷ ts) t = ap (λ b. eq_by_cmp tuple_cmp t.plain u.plain || b) (any_plain ts t)

is_there : (ts : List Tuple) (t : Tuple) → list_any (eq_by_cmp tuple_order t) ts ≡ true → Contains (plains ts) t.plain
is_there ts t h = Contains-list_any (eq_by_cmp tuple_cmp) tied (plains ts) t.plain (sym (any_plain ts t) ∙ h)

-- A set has a tuple exactly where the list of the data of its tuples has the data of the tuple.
pub has_exactly : (ts : List Tuple) (t : Tuple) (b : Bool) → b ≡ list_any (eq_by_cmp tuple_order t) ts → IsTrue b ↔ Contains (plains ts) t.plain
has_exactly ts t b e = (λ h. is_there ts t (sym e ∙ h), λ c. e ∙ any_plain ts t ∙ list_any-from_Contains (eq_by_cmp_equiv tuple_cmp_total) t.plain (plains ts) c)

-- ---- the place of a tuple
abbrev same_data : Tuple → Tuple → Bool
same_data = eq_by_cmp tuple_order

no_position : (p : Tuple → Bool) (ts : List Tuple) → position p ts ≡ None → length ts ≤ position_or_len p ts
no_position p ts e = grind (arith, nat_tests)

pub place_match : (ts : List Tuple) (t : Tuple) (r : Option ℕ) → r ≡ position (same_data t) ts → MatchOption r (¬ (Contains (plains ts) t.plain)) (λ v. slice_get (plains ts) v ≡ Some t.plain)
place_match ts t None e = λ c.
    let within : c.0 < length ts = omega (arith, c.1, length-map ts (λ (x : Tuple). x.plain)) in
    let is : (get_or ts c.0 t).plain ≡ t.plain = sym (plain_at ts c.0 t t.plain within) ∙ c.2 in
    let fails : same_data t (get_or ts c.0 t) ≡ false = fails_before_first (same_data t) ts c.0 t (omega (arith, within, no_position (same_data t) ts (sym e))) in
    true≢false (sym (ap is_eq (tied_with_itself t.plain)) ∙ ap (eq_by_cmp tuple_cmp t.plain) (sym is) ∙ fails)
place_match ts t (Some v) e =
    let found = position-Some (same_data t) ts v t (sym e) in
    slice_get-get_or (plains ts) v t.plain (omega (arith, found.0, length-map ts (λ (x : Tuple). x.plain)))
    ∙ ap Some (plain_at ts v t t.plain found.0 ∙ sym (tied t.plain (get_or ts v t).plain found.1))

-- ---- one tuple more
pub added_known : (ts : List Tuple) (t : Tuple) → list_any (eq_by_cmp tuple_order t) ts ≡ true → IsAdded (plains ts) t.plain (plains ts)
added_known ts t h = inl (is_there ts t h, refl)

pub added_new : (ts new : List Tuple) (t copy : Tuple) → list_any (eq_by_cmp tuple_order t) ts ≡ false → copy ≡ own_room t.plain → new ≡ insert_key (eq_by_cmp tuple_order) ts copy → IsAdded (plains ts) t.plain (plains new)
added_new ts new t copy h e f =
    let last : new ≡ ts ++ own_room t.plain ∷ [] = f ∙ ap (insert_key (eq_by_cmp tuple_order) ts) e ∙ ap (λ b. if b then ts else ts ++ own_room t.plain ∷ []) h in
    inr (
      λ c. true≢false (sym ((has_exactly ts t (list_any (eq_by_cmp tuple_order t) ts) refl).1 c) ∙ h),
      ap plains last ∙ map-append (λ (u : Tuple). u.plain) ts (own_room t.plain ∷ []),
    )
