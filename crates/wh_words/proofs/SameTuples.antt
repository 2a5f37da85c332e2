-- The order of the data of tuples, and the test whether two tuples are the same.
use Rattle.std.proofs.Common.{◌≡◌, ◌≢◌, ℕ, ◌==◌, Bool, true, false, not, List, [], ◌∷◌, length, get_or, drop, slice_range, refl, sym, ap, ◌∙◌, subst, arith}
use Rattle.std.proofs.lemmas.Bool.{false≢true}
use Rattle.std.proofs.lemmas.Bool.Decides.{Decides-eqb}
use Rattle.std.proofs.lemmas.Cmp.{on_total, tied_itself}
use Rattle.std.proofs.lemmas.Map.Views.{tells_apart}
use Rattle.std.proofs.lemmas.Slice.Eq.{slice_eq-Decides}
use lib.Pointwise.{pointwise}
use Rattle.std.specs.Cmp.{IsTotalOrder}
use Rattle.std.specs.List.{concat}
use Rattle.std.specs.Bool.{MatchBool}
use Rattle.std.specs.Ordering.{is_eq, eq_by_cmp}
use Rattle.std.specs.declared.cmp.Ordering.{Ordering}
use Rattle.std.specs.declared.cmp.Ordering.TheVariants.{Less, Equal, Greater}
use Rattle.wh_words.specs.Tuples.{TupleData, Tuple, own_room, tuple_cmp, tuple_order_total}
use Rattle.wh_words.specs.Storage.{split_at, EndsRise, tuple_of}
use Rattle.wh_words.proofs.StoredWords.{split_at_concat, ends_rise-le, range-length}
use Rattle.wh_words.specs.TupleTies.{same_from_tied}

pub tuple_cmp_total : IsTotalOrder tuple_cmp
tuple_cmp_total = on_total own_room tuple_order_total

-- Data that the order ties is the same.
pub tied : (s t : TupleData) → eq_by_cmp tuple_cmp s t ≡ true → s ≡ t
tied = tells_apart same_from_tied

pub tied_with_itself : (t : TupleData) → tuple_cmp t t ≡ Equal
tied_with_itself t = tied_itself tuple_order_total (own_room t)

-- The test tells what the order does.
pub same_is_tied : (s t : TupleData) (b : Bool) → MatchBool b (s ≡ t) (s ≢ t) → b ≡ is_eq (tuple_cmp s t)
same_is_tied s t true h = sym (ap is_eq (ap (tuple_cmp s) (sym h) ∙ tied_with_itself s))
same_is_tied s t false h = by (tuple_cmp s t) refl
  where
    by : (o : Ordering) → tuple_cmp s t ≡ o → false ≡ is_eq (tuple_cmp s t)
    by Less e = sym (ap is_eq e)
    by Equal e = absurd (h (same_from_tied s t e))
    by Greater e = sym (ap is_eq e)

-- ---- rows
same_ends : (s : ℕ) (es fs xs ys : List ℕ) → EndsRise s es (length xs) → EndsRise s fs (length ys) → split_at s es xs ≡ split_at s fs ys → es ≡ fs
same_ends s [] [] xs ys l r e = refl
same_ends s [] (f ∷ fs) xs ys l r e = absurd (omega (arith, ap length e))
same_ends s (e ∷ es) [] xs ys l r q = absurd (omega (arith, ap length q))
same_ends s (e ∷ es) (f ∷ fs) xs ys l r q =
    let first : slice_range xs s e ≡ slice_range ys s f = ap (λ vs. get_or vs 0 []) q in
    let end : e ≡ f = omega (arith, ap length first, range-length xs s e l.0 (ends_rise-le e es (length xs) l.1), range-length ys s f r.0 (ends_rise-le f fs (length ys) r.1), l.0, r.0) in
    let rest : split_at e es xs ≡ split_at f fs ys = ap (drop 1) q in
    ap (λ i. i ∷ es) end
    ∙ ap (λ v. f ∷ v) (same_ends f es fs xs ys (subst (λ i. EndsRise i es (length xs)) end l.1) r.1 (ap (λ i. split_at i es xs) (sym end) ∙ rest))

-- Rows of one rank, with the same ends and letters, are those of one tuple, and rows of one tuple are the same.
pub same_stored : (n m : ℕ) (es fs xs ys : List ℕ) (room word_room room2 word_room2 : ℕ) (s t : Tuple) (b : Bool) → EndsRise 0 es (length xs) → EndsRise 0 fs (length ys) →
    tuple_of n es xs room word_room ≡ s → tuple_of m fs ys room2 word_room2 ≡ t → (b ≡ true → (n ≡ m) × (es ≡ fs) × (xs ≡ ys)) → (n ≡ m → es ≡ fs → xs ≡ ys → b ≡ true) →
    MatchBool b (s.plain ≡ t.plain) (s.plain ≢ t.plain)
same_stored n m es fs xs ys room word_room room2 word_room2 s t true l r v w same apart =
    let all : (n ≡ m) × (es ≡ fs) × (xs ≡ ys) = same refl in
    sym (ap (λ (u : Tuple). u.plain) v)
    ∙ ap (λ (k : ℕ). record { rank = k; words = split_at 0 es xs }) all.0
    ∙ ap (λ (k : List ℕ). record { rank = m; words = split_at 0 k xs }) all.1
    ∙ ap (λ (k : List ℕ). record { rank = m; words = split_at 0 fs k }) all.2
    ∙ ap (λ (u : Tuple). u.plain) w
same_stored n m es fs xs ys room word_room room2 word_room2 s t false l r v w same apart =
    λ e. (
    let plain : (tuple_of n es xs room word_room).plain ≡ (tuple_of m fs ys room2 word_room2).plain = ap (λ (u : Tuple). u.plain) v ∙ e ∙ sym (ap (λ (u : Tuple). u.plain) w) in
    let words : split_at 0 es xs ≡ split_at 0 fs ys = ap (λ (d : TupleData). d.words) plain in
    false≢true (apart (ap (λ (d : TupleData). d.rank) plain) (same_ends 0 es fs xs ys l r words) (sym (split_at_concat es xs l) ∙ ap concat words ∙ split_at_concat fs ys r)))

-- ---- slices
pub slices_same : (xs ys : List ℕ) (b : Bool) → b ≡ pointwise ◌==◌ xs ys → b ≡ true → xs ≡ ys
slices_same xs ys b e = (slice_eq-Decides Decides-eqb xs ys b e).0

pub slices_equal : (xs ys : List ℕ) (b : Bool) → b ≡ pointwise ◌==◌ xs ys → xs ≡ ys → b ≡ true
slices_equal xs ys b e = (slice_eq-Decides Decides-eqb xs ys b e).1

pub slices_not_unlike : (xs ys : List ℕ) (b : Bool) → b ≡ not (pointwise ◌==◌ xs ys) → b ≡ false → xs ≡ ys
slices_not_unlike xs ys b e h = slices_same xs ys (pointwise ◌==◌ xs ys) refl (by (pointwise ◌==◌ xs ys) (sym e ∙ h))
  where
    by : (p : Bool) → not p ≡ false → p ≡ true
    by true e = refl
    by false e = sym e
