-- What the search for first walks answers.
use Rattle.std.proofs.Common.{◌≡◌, ℕ, ◌<◌, ◌≤◌, Bool, true, false, List, [], ◌∷◌, length, get_or, map, Some, None, slice_get, Contains, refl, sym, ap, ◌∙◌, subst, arith, inl, inr}
use Rattle.std.proofs.lemmas.Bool.{cases_lt, true≢false}
use Rattle.std.proofs.lemmas.List.{length-map}
use Rattle.std.proofs.lemmas.Option.{slice_get-map, slice_get-get_or, slice_get_within, slice_get_read, get_or_from_slice_get, same_Some}
use Rattle.std.specs.Bool.{MatchBool}
use Rattle.std.specs.List.{All}
use Rattle.std.specs.Option.{option_map}
use Rattle.wh_words.specs.Tuples.{TupleData}
use Rattle.wh_words.specs.Levels.{InLevel}
use Rattle.wh_expand.specs.declared.row.Row.{Row}
use Rattle.wh_expand.specs.Rows.{IsRow, row_tuple}
use Rattle.wh_level.specs.Sealings.{IsMissed}
use Rattle.wh_level.specs.Searches.{SearchData, started, IsSearched, HasCells, IsAbsentImage}
use Rattle.wh_level.proofs.SearchEnds.{searched_at_start, queue_room, queue_tuple}

pub past_from_none : {X : Type 0} (xs : List X) (i : ℕ) → slice_get xs i ≡ None → length xs ≤ i
past_from_none [] i h = omega arith
past_from_none (x ∷ xs) i h = elim (cases_lt i (length (x ∷ xs))) [
  | inl l ↦ absurd (let both : None ≡ Some (get_or (x ∷ xs) i x) = sym h ∙ slice_get-get_or (x ∷ xs) i x l in cc)
  | inr l ↦ l
]

pub started_at : (root : TupleData) (tuples : List TupleData) (n v : ℕ) (s : SearchData) → n ≡ length tuples → slice_get tuples v ≡ Some root → s ≡ started n v → IsSearched root tuples s 0
started_at root tuples n v s e at is =
    subst (λ (x : SearchData). IsSearched root tuples x 0) (sym (is ∙ ap (λ k. started k v) e)) (searched_at_start root tuples v at)

-- ---- the place that comes next
module _ {root : TupleData} {tuples : List TupleData} {s : SearchData} {at : ℕ} (u : IsSearched root tuples s at) (v : ℕ) (next : slice_get s.queue at ≡ Some v) where
  pub next_within : at < length tuples
  next_within = omega (arith, slice_get_within s.queue at v next, queue_room u)

  pub next_tuple : (t : TupleData) × (slice_get tuples v ≡ Some t) × InLevel root t
  next_tuple =
      let found = queue_tuple u v (slice_get_within s.queue at v next) (get_or_from_slice_get s.queue at v v next) in
      (_, found.0, found.1)

pub cells_of : {root : TupleData} {tuples : List TupleData} {s : SearchData} {at : ℕ} → IsSearched root tuples s at → HasCells (length tuples) s
cells_of u = record { parents = u.known.parents; seen = u.known.places }

-- ---- its row
pub row_within : (rows : List Row) (n : ℕ) (t : TupleData) → slice_get (map row_tuple rows) n ≡ Some t → n < length rows
row_within rows n t h = omega (arith, slice_get_within (map row_tuple rows) n t h, length-map rows row_tuple)

pub row_tuple_is : (rows : List Row) (n : ℕ) (t : TupleData) (row : Row) → slice_get (map row_tuple rows) n ≡ Some t → row ≡ get_or rows n row → row_tuple row ≡ t
row_tuple_is rows n t row h is =
    same_Some (row_tuple row) t (sym (slice_get-map row_tuple rows n ∙ ap (option_map row_tuple) (slice_get_read rows (length rows) n row refl (row_within rows n t h) is)) ∙ h)

pub row_good : (rows : List Row) (n : ℕ) (row : Row) → All IsRow rows → n < length rows → row ≡ get_or rows n row → IsRow row
row_good rows n row all within is = subst IsRow (sym is) (all n row within)

-- ---- what is missed
pub missed_root : (root : TupleData) (tuples : List TupleData) → ¬ (Contains tuples root) → (t : TupleData) × IsMissed root tuples t
missed_root root tuples absent = (root, record { wanted = inl refl; absent = absent })

pub missed_image : (root : TupleData) (tuples : List TupleData) (v : ℕ) (t : TupleData) (P : Type 0) (b : Bool) → slice_get tuples v ≡ Some t → b ≡ false
    → MatchBool b P ((u : TupleData) × IsAbsentImage tuples t u) → (u : TupleData) × IsMissed root tuples u
missed_image root tuples v t P true at h m = absurd (true≢false h)
missed_image root tuples v t P false at h m = (
  m.0,
  record {
    wanted = inr (record { from = t; via = m.1.via; listed = (v, slice_get_within tuples v t at, get_or_from_slice_get tuples v t t at); moves = m.1.moves; is = m.1.is });
    absent = m.1.absent;
  },
)

pub went_over : (P Q : Type 0) (b : Bool) → b ≡ true → MatchBool b P Q → P
went_over P Q true h m = m
went_over P Q false h m = absurd (true≢false (sym h))
