-- What stands in a list, by its places.
use Rattle.std.proofs.Common.{◌≡◌, ℕ, ◌+◌, ◌<◌, List, length, get_or, Option, Some, Result, Ok, Err, slice_get, Contains, sym, ap, ◌∙◌, subst, arith, inl, inr}
use Rattle.std.specs.Prelude.{MatchOption}
use Rattle.std.specs.Result.{result_ok}
use Rattle.std.proofs.lemmas.Bool.{true≢false, cases_lt}
use Rattle.std.proofs.lemmas.Cmp.{tied_itself}
use Rattle.std.proofs.lemmas.List.Sorted.{searchable_from_sorted}
use Rattle.std.proofs.lemmas.Map.Keys.{Less-from_sorted}
use Rattle.std.proofs.lemmas.Option.{slice_get-get_or, slice_get_within, get_or_from_slice_get}
use Rattle.std.specs.Cmp.{IsTotalOrder, on_total, then_total, nat_cmp_total}
use Rattle.std.specs.FinMap.{nat_cmp-IsAntisymmetric}
use Rattle.std.specs.List.Sorted.{IsStrictlySortedBy, IsSortedBy, IsSearchInRange, IsBinarySearchResult}
use Rattle.std.specs.Ordering.{is_lt, is_gt, nat_cmp}
use Rattle.std.specs.declared.cmp.Ordering.{Ordering}
use Rattle.std.specs.declared.cmp.Ordering.TheVariants.{Less, Equal}
use Rattle.wh_words.specs.TupleTies.{then_equal}
use Rattle.wh_words.specs.Moves.{Move, move_cmp}
use Rattle.wh_moves.specs.MoveOrders.{move_cmp_total, same_move}
use Rattle.wh_level.proofs.LawProofs.{less_itself}
use Rattle.wh_level.proofs.Places.{not_lt_back}
use Rattle.wh_stab.specs.Presentations.{Start, start_cmp}

pub contained : {X : Type 0} (xs : List X) (k : ℕ) (x : X) → slice_get xs k ≡ Some x → Contains xs x
contained xs k x h = (k, slice_get_within xs k x h, get_or_from_slice_get xs k x x h)

pub place_contained : {X : Type 0} (xs : List X) (x : X) → Contains xs x → (k : ℕ) × (slice_get xs k ≡ Some x)
place_contained xs x c = (c.0, slice_get-get_or xs c.0 x c.1 ∙ ap Some c.2)

pub start_cmp_total : IsTotalOrder start_cmp
start_cmp_total = then_total (on_total (λ (s : Start). s.0) nat_cmp_total) (on_total (λ (s : Start). s.1) move_cmp_total)

-- What stands in a sorted list has one place there.
pub sorted_places : {X : Type 0} {R : X → X → Ordering} (o : IsTotalOrder R) (xs : List X) (v w : ℕ) (x : X) → IsStrictlySortedBy R xs → slice_get xs v ≡ Some x → slice_get xs w ≡ Some x → v ≡ w
sorted_places {X} {R} o xs v w x sorted h k = elim (cases_lt v w) [
  | inl l ↦ absurd (less_at v w h k l)
  | inr l ↦ elim (cases_lt w v) [
    | inl m ↦ absurd (less_at w v k h m)
    | inr m ↦ omega (arith, l, m)
  ]
]
  where
    less_at : (a b : ℕ) → slice_get xs a ≡ Some x → slice_get xs b ≡ Some x → a < b → ⊥
    less_at a b p q l =
        less_itself o x
        (subst (λ (y : X). R y x ≡ Less) (get_or_from_slice_get xs a x x p)
        (subst (λ (y : X). R (get_or xs a x) y ≡ Less) (get_or_from_slice_get xs b x x q)
        (Less-from_sorted R xs a b x sorted l (slice_get_within xs b x q))))

-- ---- searches
-- Starts that the order ties are one start.
pub same_start : (s r : Start) → start_cmp s r ≡ Equal → s ≡ r
same_start s r e =
    let both = then_equal (nat_cmp s.0 r.0) (move_cmp s.1 r.1) e in
    ap (λ (k : ℕ). (k, s.1)) (nat_cmp-IsAntisymmetric s.0 r.0 both.0) ∙ ap (λ (m : Move). (r.0, m)) (same_move s.1 r.1 both.1)

module _ {X : Type 0} {R : X → X → Ordering} (o : IsTotalOrder R) (same : (x y : X) → R x y ≡ Equal → x ≡ y) (xs : List X) (x : X) (sorted : IsStrictlySortedBy R xs) where
  searchable : IsSortedBy (λ a b. is_lt (R a b)) xs
  searchable k d low l =
      not_lt_back (R (get_or xs k d) (get_or xs (k + 1) d)) (R (get_or xs (k + 1) d) (get_or xs k d)) (Less-from_sorted R xs k (k + 1) d sorted (omega arith) l) (IsTotalOrder.antisymm o (get_or xs k d) (get_or xs (k + 1) d))

  -- A search finds the place of what it looks for, or shows that it isn't there.
  pub sorted_search : (r : Result ℕ ℕ) (q : Option ℕ) → IsSearchInRange r (length xs) → IsBinarySearchResult (λ y. R y x) xs r → q ≡ result_ok r → MatchOption q (¬ (Contains xs x)) (λ k. slice_get xs k ≡ Some x)
  sorted_search (Ok v) q range search is =
      subst (λ (p : Option ℕ). MatchOption p (¬ (Contains xs x)) (λ k. slice_get xs k ≡ Some x)) (sym is)
      (slice_get-get_or xs v x range ∙ ap Some (same (get_or xs v x) x (search x)))
  sorted_search (Err i) q range search is =
      let parted = search (searchable_from_sorted o (λ (y : X). y) xs x searchable) in
      subst (λ (p : Option ℕ). MatchOption p (¬ (Contains xs x)) (λ k. slice_get xs k ≡ Some x)) (sym is) (λ found.
      let tie : R (get_or xs found.0 x) x ≡ Equal = ap (λ (y : X). R y x) found.2 ∙ tied_itself o x in
      elim (cases_lt found.0 i) [
        | inl below ↦ absurd (true≢false (ap is_lt (sym (parted.0 found.0 x (omega arith) below) ∙ tie)))
        | inr above ↦ absurd (true≢false (ap is_gt (sym (parted.1 found.0 x above found.1) ∙ tie)))
      ])
