-- How a list is judged orbit by orbit: each tuple by its own images, or by an image that stands before it.
use Rattle.std.proofs.Common.{◌≡◌, ℕ, zero, suc, ◌+◌, ◌<◌, ◌≤◌, Bool, true, false, List, length, get_or, slice_get, Option, Some, None, Result, Ok, Err, refl, sym, ap, ◌∙◌, subst, inl, inr, ◌↔◌, IsTrue, arith}
use Rattle.std.specs.Prelude.{Contains, MatchOption, IfOk}
use Rattle.std.specs.List.{All}
use Rattle.std.proofs.lemmas.Bool.{cases_lt, false≢true}
use Rattle.std.proofs.lemmas.Option.{slice_get-get_or, slice_get_within, same_Some}
use Rattle.std.proofs.lemmas.List.Elements.{All-contains, All-map, Contains-get_or}
use Rattle.wh_words.specs.Limits.{most_level_rank}
use Rattle.wh_words.specs.Tuples.{TupleData, Tuple, IsTuple}
use Rattle.wh_words.specs.Moves.{Move}
use Rattle.wh_words.specs.Action.{act}
use Rattle.wh_words.specs.Levels.{IsLevelMove}
use Rattle.wh_sets.specs.TupleSets.{HaveSameTuples}
use Rattle.wh_sets.proofs.SetLists.{contains_at}
use Rattle.wh_data.specs.AnswerData.{plains}
use Rattle.wh_cert.specs.Demands.{ImagesAreIn}
use Rattle.wh_cert.specs.Orbits.{OrbitsAreIn, IsClosed, HasEarlierImage, IsPermutedIn, IsJudgedAt, AreJudgedBefore, IsJudged}
use Rattle.wh_cert.proofs.PermutedLetters.{permuting_level, level_tuple, permuted_back}
use Rattle.wh_cert.proofs.SwappedInversions.{inversions_stay}
use Rattle.wh_cert.proofs.ClosedOrbits.{closed_by_orbits}

-- ---- one tuple
-- An image of a tuple under a level move isn't listed, so that the first call answers None, and so does the function.
pub leads_out : (us : List TupleData) (t : TupleData) (m : Move) (Q : Bool → Type 0) (r : Option Bool) → IsLevelMove t m → ¬ (Contains us (act t m)) → r ≡ None → MatchOption r (¬ (ImagesAreIn us t)) Q
leads_out us t m Q r level out e = subst (λ (o : Option Bool). MatchOption o (¬ (ImagesAreIn us t)) Q) (sym e) (λ all. out (all m level))

-- All images of the tuple at a place were looked up.
pub judged_by_images : {E : Type 0} (us : List TupleData) (place : ℕ) (t : TupleData) (r : Result Bool E) → slice_get us place ≡ Some t → IsPermutedIn us t → IfOk r (λ b. IsTrue b ↔ ImagesAreIn us t) → IfOk r (IsJudged us place)
judged_by_images us place t (Ok true) at permuted h = λ u e.
    subst (IsJudgedAt us place) (same_Some t u (sym at ∙ e)) (record { permuted = permuted; either = inr (h.0 refl) })
judged_by_images us place t (Ok false) at permuted h = λ closed. false≢true (h.1 (closed t (contains_at us place t at)))
judged_by_images us place t (Err e) at permuted h = tt

-- ---- all tuples
pub one_more_judged : (ts : List TupleData) (place : ℕ) (b : Bool) → AreJudgedBefore ts place → IsJudged ts place b → b ≡ true → AreJudgedBefore ts (place + 1)
one_more_judged ts place b before judged found k t l e = elim (cases_lt k place) [
  | inl below ↦ before k t below e
  | inr above ↦
      let here : place ≡ k = omega (arith, above, l) in
      let all : (u : TupleData) → slice_get ts place ≡ Some u → IsJudgedAt ts place u = subst (IsJudged ts place) found judged in
      subst (λ (j : ℕ). IsJudgedAt ts j t) here (all t (ap (slice_get ts) here ∙ e))
]

module _ (ts : List TupleData) (judged : AreJudgedBefore ts (length ts)) where
  judged_at : (k : ℕ) (t : TupleData) → slice_get ts k ≡ Some t → IsJudgedAt ts k t
  judged_at k t e = judged k t (slice_get_within ts k t e) e

  place_of : (t : TupleData) → Contains ts t → (k : ℕ) × (slice_get ts k ≡ Some t)
  place_of t c = (c.0, slice_get-get_or ts c.0 t c.1 ∙ ap Some c.2)

  judged_there : (t : TupleData) → Contains ts t → IsPermutedIn ts t
  judged_there t c = let at = place_of t c in (judged_at at.0 t at.1).permuted

  orbits_in : OrbitsAreIn ts
  orbits_in t c = ((judged_there t c).swaps, λ k. inversions_stay ts judged_there k t c)

  -- What an earlier image tells of the tuple.
  told : (k : ℕ) (t : TupleData) → IsTuple t → (h : HasEarlierImage ts t k) → ImagesAreIn ts (act t h.move) → ImagesAreIn ts t
  told k t is h images =
      let next : IsTuple (act t h.move) = level_tuple t h.move is h.level in
      subst (ImagesAreIn ts) (permuted_back t h.move is h.level.valid h.permutes)
      (closed_by_orbits ts (act t h.move) h.move next orbits_in (contains_at ts h.at (act t h.move) h.there) images (permuting_level (act t h.move) h.move next h.level.valid h.level.rank h.permutes) h.permutes)

  -- By induction on a bound of the places.
  images_below : (n k : ℕ) (t : TupleData) → k < n → slice_get ts k ≡ Some t → ImagesAreIn ts t
  images_below zero k t l e = absurd (omega (arith, l))
  images_below (suc n) k t l e = elim (judged_at k t e).either [
    | inl h ↦ told k t (judged_at k t e).permuted.tuple h (images_below n h.at (act t h.move) (omega (arith, l, h.before)) h.there)
    | inr images ↦ images
  ]

  pub all_judged : IsClosed ts
  all_judged t c = let at = place_of t c in images_below (at.0 + 1) at.0 t (omega arith) at.1

-- The tuples of a set are of the ranks of those of the list.
pub listed_ranks : (us : List TupleData) (ts : List Tuple) → HaveSameTuples us (plains ts) → All (λ t. t.plain.rank ≤ most_level_rank) ts → All (λ t. t.rank ≤ most_level_rank) us
listed_ranks us ts same low k d l =
    All-contains (λ t. t.rank ≤ most_level_rank) (plains ts) (get_or us k d) (All-map (λ (t : TupleData). t.rank ≤ most_level_rank) (λ (t : Tuple). t.plain) ts low) ((same (get_or us k d)).0 (Contains-get_or us k d l))
