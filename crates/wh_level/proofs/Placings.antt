-- The places of the tuples of rows, and the numbers of their rows.
use Rattle.std.proofs.Common.{◌≡◌, ◌⊎◌, map, ℕ, ◌+◌, ◌<◌, ◌≤◌, List, [], length, get_or, set, Option, Some, None, slice_get, Contains, sym, ap, ◌∙◌, subst, arith, rules, inl, inr, ⊎_elim}
use Rattle.std.specs.Prelude.{IsSome}
use Rattle.std.proofs.lemmas.Bool.{cases_order}
use Rattle.std.proofs.lemmas.List.{get_or-set_other, length-set}
use Rattle.std.proofs.lemmas.List.Sorted.{Contains-permutation, IsPermutation-sym}
use Rattle.std.proofs.lemmas.Option.{slice_get-get_or, slice_get-map, slice_get_within, get_or_from_slice_get}
use Rattle.std.proofs.lemmas.Grind.{get_or-set_at}
use Rattle.std.specs.List.Sorted.{IsStrictlySortedBy, IsPermutation}
use Rattle.std.specs.Option.{MatchOption, option_map}
use Rattle.wh_words.specs.Tuples.{TupleData, tuple_cmp}
use Rattle.wh_expand.specs.Rows.{row_tuple}
use Rattle.wh_expand.specs.declared.row.Row.{Row}
use Rattle.wh_sets.specs.TupleSets.{AreAdded}
use Rattle.wh_sets.proofs.Additions.{same_tuples}
use Rattle.wh_level.specs.PlacedTuples.{IsPlacing, AreRowNumbers}
use Rattle.wh_level.proofs.SearchEnds.{same_places}

-- ---- the tuples in order
pub placed_sorted : (ts old new : List TupleData) → AreAdded [] ts old → IsPermutation old new → IsStrictlySortedBy tuple_cmp new → IsPlacing ts new
placed_sorted ts old new added moved sorted = record {
  sorted = sorted;
  same = λ t. (
    λ c. (same_tuples ts old added t).0 (Contains-permutation new old t (IsPermutation-sym old new moved) c),
    λ c. Contains-permutation old new t moved ((same_tuples ts old added t).1 c),
  );
}

pub row_here : (rows : List Row) (n : ℕ) (d : Row) → n < length rows → slice_get (map row_tuple rows) n ≡ Some (row_tuple (get_or rows n d))
row_here rows n d l = slice_get-map row_tuple rows n ∙ ap (option_map row_tuple) (slice_get-get_or rows n d l)

-- Each tuple of a row has a place.
pub has_place : (ts places : List TupleData) (n : ℕ) (t : TupleData) (r : Option ℕ) → IsPlacing ts places → slice_get ts n ≡ Some t → MatchOption r (¬ (Contains places t)) (λ v. slice_get places v ≡ Some t) → IsSome r
has_place ts places n t None p at absent = absurd (absent ((p.same t).1 (n, slice_get_within ts n t at, get_or_from_slice_get ts n t t at)))
has_place ts places n t (Some v) p at found = search rules

pub place_of : (places : List TupleData) (t : TupleData) (r : Option ℕ) (v : ℕ) → MatchOption r (¬ (Contains places t)) (λ w. slice_get places w ≡ Some t) → r ≡ Some v → slice_get places v ≡ Some t
place_of places t r v found e = subst (λ o. MatchOption o (¬ (Contains places t)) (λ w. slice_get places w ≡ Some t)) e found

-- ---- the numbers of rows
-- The places of the tuples of the first rows, so many of them, have numbers of rows with their tuples.
pub record AreNumbersTo (ts places : List TupleData) (n : ℕ) (numbers : List ℕ) : Type 0 where
  pub count : length numbers ≡ length places
  pub rows : (v k : ℕ) (t : TupleData) → k < n → slice_get places v ≡ Some t → slice_get ts k ≡ Some t → slice_get ts (get_or numbers v 0) ≡ Some t

pub numbers_start : (ts places : List TupleData) (numbers : List ℕ) → length numbers ≡ length places → AreNumbersTo ts places 0 numbers
numbers_start ts places numbers e = record { count = e; rows = λ v k t l at is. absurd (omega arith) }

pub numbers_more : (ts places : List TupleData) (numbers new : List ℕ) (n p : ℕ) (u : TupleData) → IsStrictlySortedBy tuple_cmp places → AreNumbersTo ts places n numbers → slice_get ts n ≡ Some u → slice_get places p ≡ Some u → new ≡ set numbers p n →
    AreNumbersTo ts places (n + 1) new
numbers_more ts places numbers new n p u sorted before row at is = subst (AreNumbersTo ts places (n + 1)) (sym is) (record {
  count = length-set numbers p n ∙ before.count;
  rows = λ v k t l there stands. ⊎_elim
      (λ here. ap (slice_get ts) (get_or-set_at numbers p v n 0 here within) ∙ row ∙ sym at ∙ ap (slice_get places) (sym here) ∙ there)
      (λ other. ap (slice_get ts) (get_or-set_other numbers p v n 0 (λ e. either (λ b. omega (arith, b, e)) (λ a. omega (arith, a, e)) other)) ∙ ⊎_elim
      (λ last. absurd (either (λ b. omega (arith, b, same_places places v p u sorted (there ∙ sym stands ∙ ap (slice_get ts) last ∙ row) at)) (λ a. omega (arith, a, same_places places v p u sorted (there ∙ sym stands ∙ ap (slice_get ts) last ∙ row) at)) other))
      (λ order. ⊎_elim (λ below. before.rows v k t below there stands) (λ above. absurd (omega (arith, above, l))) order)
      (cases_order k n))
      (cases_order v p);
})
  where
    within : p < length numbers
    within = omega (arith, before.count, slice_get_within places p u at)

    either : {A B : Type 0} → (A → ⊥) → (B → ⊥) → A ⊎ B → ⊥
    either f g (inl a) = f a
    either f g (inr b) = g b

pub numbers_all : (ts places : List TupleData) (numbers : List ℕ) (n : ℕ) → IsPlacing ts places → length ts ≤ n → AreNumbersTo ts places n numbers → AreRowNumbers ts places numbers
numbers_all ts places numbers n p all h = record {
  count = h.count;
  rows = λ v t at.
      let row : Contains ts t = (p.same t).0 (v, slice_get_within places v t at, get_or_from_slice_get places v t t at) in
      h.rows v row.0 t (omega (arith, row.1, all)) at (slice_get-get_or ts row.0 t row.1 ∙ ap Some row.2);
}
