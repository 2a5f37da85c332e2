-- Sorting a set, and copying its tuples.
use Rattle.std.proofs.Common.{◌≡◌, ℕ, ◌+◌, ◌<◌, false, List, [], ◌∷◌, ◌++◌, length, get_or, take, Some, slice_get, refl, sym, ap, ◌∙◌, arith}
use Rattle.std.proofs.lemmas.Bool.{true≢false}
use Rattle.std.proofs.lemmas.List.{length-map, map_push, take_more}
use Rattle.std.proofs.lemmas.Map.Keys.{sorted_from_all_adjacent, apart_from_distinct}
use Rattle.std.proofs.lemmas.Option.{slice_get_within, get_or_from_slice_get}
use Rattle.std.specs.List.{IsDistinct}
use Rattle.std.specs.List.Sorted.{IsStrictlySortedBy, IsSorted}
use Rattle.std.specs.Ordering.{is_lt, is_gt, is_eq, eq_by_cmp, ordering_reverse}
use Rattle.std.specs.declared.cmp.Ordering.{Ordering}
use Rattle.std.specs.declared.cmp.Ordering.TheVariants.{Less, Equal, Greater}
use Rattle.wh_words.specs.Tuples.{TupleData, Tuple, own_room, tuple_cmp, tuple_order}
use Rattle.wh_words.proofs.SameTuples.{tuple_cmp_total}
use Rattle.wh_sets.proofs.SetLists.{plains, plain_at}

-- ---- in order
below_next : (o p : Ordering) → o ≡ ordering_reverse p → is_lt p ≡ false → is_eq o ≡ false → o ≡ Less
below_next Less p e h k = refl
below_next Equal p e h k = absurd (true≢false k)
below_next Greater Less e h k = absurd (true≢false h)
below_next Greater Equal e h k = absurd (true≢false (ap is_gt e))
below_next Greater Greater e h k = absurd (true≢false (ap is_gt e))

-- The data of different sorted tuples rises.
pub sorted_plains : (ts : List Tuple) → IsSorted tuple_order ts → IsDistinct (eq_by_cmp tuple_order) ts → IsStrictlySortedBy tuple_cmp (plains ts)
unfolding IsStrictlySortedBy
sorted_plains [] sorted distinct = tt
sorted_plains (t ∷ ts) sorted distinct =
    let all : List Tuple = t ∷ ts in
    sorted_from_all_adjacent tuple_cmp_total (plains all) t.plain (λ k h.
    let within : k + 1 < length all = omega (arith, h, length-map all (λ (x : Tuple). x.plain)) in
    ap (λ (u : TupleData). tuple_cmp u (get_or (plains all) (k + 1) t.plain)) (plain_at all k t t.plain (omega (arith, within)))
    ∙ ap (tuple_cmp (get_or all k t).plain) (plain_at all (k + 1) t t.plain within)
    ∙ below_next (tuple_order (get_or all k t) (get_or all (k + 1) t)) (tuple_order (get_or all (k + 1) t) (get_or all k t))
    (tuple_cmp_total.antisymm (get_or all k t).plain (get_or all (k + 1) t).plain)
    (sorted k t (omega arith) within)
    (apart_from_distinct (eq_by_cmp tuple_order) all k (k + 1) t distinct (omega arith) within))

-- ---- copies of the first tuples
pub copy_more : (copies : List Tuple) (ts : List TupleData) (v : ℕ) (t u : Tuple) → plains copies ≡ take v ts → slice_get ts v ≡ Some t.plain → u ≡ own_room t.plain → plains (copies ++ u ∷ []) ≡ take (v + 1) ts
copy_more copies ts v t u e at is =
    map_push (λ (x : Tuple). x.plain) copies u
    ∙ ap (λ us. us ++ u.plain ∷ []) e
    ∙ ap (λ (d : TupleData). take v ts ++ d ∷ []) (ap (λ (x : Tuple). x.plain) is ∙ sym (get_or_from_slice_get ts v t.plain t.plain at))
    ∙ sym (take_more ts v t.plain (slice_get_within ts v t.plain at))
