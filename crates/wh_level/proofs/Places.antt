-- Where a tuple stands among sorted tuples, for `Level::place`.
use Rattle.std.proofs.Common.{◌≡◌, ℕ, ◌+◌, ◌<◌, ◌≤◌, List, length, get_or, refl, sym, ap, ◌∙◌, subst, arith, Option, Some, Result, Ok, Err, false, ⊎_elim, ◌⊎◌, inl, inr}
use Rattle.std.specs.Prelude.{slice_get, Contains, MatchOption, MatchResult}
use Rattle.std.specs.Result.{result_ok}
use Rattle.std.specs.List.Sorted.{IsStrictlySortedBy, IsSortedBy, IsSearchInRange, IsBinarySearchResult}
use Rattle.std.specs.Ordering.{is_lt, is_gt, ordering_reverse}
use Rattle.std.specs.Cmp.{IsTotalOrder}
use Rattle.std.specs.declared.cmp.Ordering.{Ordering}
use Rattle.std.specs.declared.cmp.Ordering.TheVariants.{Less, Equal, Greater}
use Rattle.std.proofs.lemmas.Bool.{true≢false, cases_order}
use Rattle.std.proofs.lemmas.Option.{slice_get-get_or}
use Rattle.std.proofs.lemmas.List.{length-map}
use Rattle.std.proofs.lemmas.List.Sorted.{searchable_from_sorted}
use Rattle.std.proofs.lemmas.Map.Keys.{Less-from_sorted}
use Rattle.wh_words.specs.Tuples.{Tuple, tuple_cmp, tuple_order, tuple_order_total}
use Rattle.wh_words.specs.TupleTies.{same_from_tied}
use Rattle.wh_words.specs.Levels.{InLevel}
use Rattle.wh_words.proofs.SameTuples.{tied_with_itself}
use Rattle.wh_sets.proofs.SetLists.{plains, plain_at}
use Rattle.wh_level.specs.Trees.{LevelData, IsClosedLevel}

plains_length : (ts : List Tuple) → length (plains ts) ≡ length ts
plains_length ts = length-map ts (λ (t : Tuple). t.plain)

cases_order_le : (a b : ℕ) → (a ≤ b) ⊎ (b < a)
cases_order_le a b = ⊎_elim (λ e. inl (omega arith)) (λ r. ⊎_elim (λ l. inl (omega arith)) (λ l. inr l) r) (cases_order a b)

pub not_lt_back : (o p : Ordering) → o ≡ Less → o ≡ ordering_reverse p → is_lt p ≡ false
not_lt_back o Less e f = cc
not_lt_back o Equal e f = refl
not_lt_back o Greater e f = refl

-- Sorted data is sorted as a search wants it.
searchable : (ts : List Tuple) → IsStrictlySortedBy tuple_cmp (plains ts) → IsSortedBy (λ a b. is_lt (tuple_order a b)) ts
searchable ts s k d low l =
    let up : tuple_cmp (get_or (plains ts) k d.plain) (get_or (plains ts) (k + 1) d.plain) ≡ Less = Less-from_sorted tuple_cmp (plains ts) k (k + 1) d.plain s (omega arith) (omega (arith, l, plains_length ts)) in
    let here : tuple_order (get_or ts k d) (get_or ts (k + 1) d) ≡ Less =
    ap (λ t. tuple_cmp t (get_or ts (k + 1) d).plain) (sym (plain_at ts k d d.plain (omega (arith, l)))) ∙ ap (tuple_cmp (get_or (plains ts) k d.plain)) (sym (plain_at ts (k + 1) d d.plain l)) ∙ up in
    not_lt_back (tuple_order (get_or ts k d) (get_or ts (k + 1) d)) (tuple_order (get_or ts (k + 1) d) (get_or ts k d)) here (IsTotalOrder.antisymm tuple_order_total (get_or ts k d) (get_or ts (k + 1) d))

-- A search finds the place of a tuple, or shows that it isn't there.
pub searched : (ts : List Tuple) (t : Tuple) (r : Result ℕ ℕ) → IsStrictlySortedBy tuple_cmp (plains ts) → IsSearchInRange r (length ts) → IsBinarySearchResult (λ y. tuple_order y t) ts r →
    MatchResult r (λ v. slice_get (plains ts) v ≡ Some t.plain) (λ _. ¬ (Contains (plains ts) t.plain))
searched ts t (Ok v) s l h =
    slice_get-get_or (plains ts) v t.plain (omega (arith, l, plains_length ts))
    ∙ ap Some (plain_at ts v t t.plain l ∙ same_from_tied (get_or ts v t).plain t.plain (h t))
searched ts t (Err i) s l h = λ found.
    let parted = h (searchable_from_sorted tuple_order_total (λ (y : Tuple). y) ts t (searchable ts s)) in
    let within : found.0 < length ts = omega (arith, found.1, plains_length ts) in
    let tied : tuple_order (get_or ts found.0 t) t ≡ Equal = ap (λ u. tuple_cmp u t.plain) (sym (plain_at ts found.0 t t.plain within) ∙ found.2) ∙ tied_with_itself t.plain in
    ⊎_elim
    (λ above. true≢false (ap is_gt (sym (parted.1 found.0 t above within) ∙ tied)))
    (λ below. true≢false (ap is_lt (sym (parted.0 found.0 t (omega arith) below) ∙ tied)))
    (cases_order_le i found.0)

-- The place of a tuple in a closed level, and none where it isn't in it.
pub placed : (l : LevelData) (ts : List Tuple) (t : Tuple) (r : Result ℕ ℕ) (o : Option ℕ) → IsClosedLevel l → l.tuples ≡ plains ts → IsSearchInRange r (length ts) → IsBinarySearchResult (λ y. tuple_order y t) ts r →
    o ≡ result_ok r → MatchOption o (¬ (InLevel l.root t.plain)) (λ v. slice_get l.tuples v ≡ Some t.plain)
placed l ts t (Ok v) o closed e range search f =
    subst (λ (p : Option ℕ). MatchOption p (¬ (InLevel l.root t.plain)) (λ v. slice_get l.tuples v ≡ Some t.plain)) (sym f)
    (ap (λ us. slice_get us v) e ∙ searched ts t (Ok v) (subst (λ us. IsStrictlySortedBy tuple_cmp us) e closed.level.sorted) range search)
placed l ts t (Err i) o closed e range search f =
    subst (λ (p : Option ℕ). MatchOption p (¬ (InLevel l.root t.plain)) (λ v. slice_get l.tuples v ≡ Some t.plain)) (sym f)
    (λ reached. searched ts t (Err i) (subst (λ us. IsStrictlySortedBy tuple_cmp us) e closed.level.sorted) range search (subst (λ us. Contains us t.plain) e ((closed.level.exact t.plain).1 reached)))
