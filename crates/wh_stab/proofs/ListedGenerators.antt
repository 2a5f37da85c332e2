-- Generators as lists of moves, for `generator_list`.
use Rattle.std.proofs.Common.{◌≡◌, ◌≢◌, ℕ, ◌+◌, ◌-◌, ◌<◌, ◌≤◌, List, ◌∷◌, ◌++◌, length, get_or, map, true, false, Option, Some, None, slice_get, Contains, rules, refl, sym, ap, ◌∙◌, subst, arith, inl, inr}
use Rattle.std.specs.Prelude.{MatchOption, IsSome}
use Rattle.std.specs.Ordering.{is_eq, eq_by_cmp}
use Rattle.std.proofs.lemmas.Bool.{cases_lt, true≢false}
use Rattle.std.proofs.lemmas.List.{length-map}
use Rattle.std.proofs.lemmas.Option.{slice_get-get_or, slice_get_within, same_Some}
use Rattle.wh_words.specs.Tuples.{TupleData, Tuple, tuple_cmp, tuple_order}
use Rattle.wh_words.proofs.SameTuples.{tied, tied_with_itself}
use Rattle.wh_words.specs.MoveLists.{inverse_list}
use Rattle.wh_words.specs.Action.{act}
use Rattle.wh_sets.proofs.SetLists.{plain_at}
use Rattle.wh_level.specs.Trees.{path_to}
use Rattle.wh_stab.specs.SpanningTrees.{place_of}
use Rattle.wh_stab.specs.Presentations.{Start, PresentationData, path_of, way_round, start_moves, generator_moves}
use Rattle.wh_stab.specs.GeneratorLists.{Joins, CanList}
use Rattle.wh_stab.proofs.Places.{contained, place_contained}
use Rattle.wh_stab.proofs.TuplePaths.{place_there}

-- ---- the place of a tuple
-- The tuple stands at none of the first so many places.
abbrev pub LacksBefore : List TupleData → ℕ → TupleData → Type 0
LacksBefore ts n t = (k : ℕ) → k < n → slice_get ts k ≢ Some t

pub lacks_none : (ts : List TupleData) (t : TupleData) → LacksBefore ts 0 t
lacks_none ts t k low = absurd (omega (arith, low))

pub plain_read : (ts : List Tuple) (n : ℕ) (u : Tuple) → n < length ts → u ≡ get_or ts n u → slice_get (map (λ x. x.plain) ts) n ≡ Some u.plain
plain_read ts n u within read =
    slice_get-get_or (map (λ x. x.plain) ts) n u.plain (omega (arith, within, length-map ts (λ (x : Tuple). x.plain))) ∙ ap Some (plain_at ts n u u.plain within ∙ ap (λ (x : Tuple). x.plain) (sym read))

pub vertex_read : (ts vs : List Tuple) (n : ℕ) (u : Tuple) (t : TupleData) → vs ≡ ts → u ≡ get_or ts n u → slice_get (map (λ x. x.plain) vs) n ≡ Some t → u.plain ≡ t
vertex_read ts vs n u t e read h =
    let within : n < length ts = omega (arith, slice_get_within (map (λ (x : Tuple). x.plain) vs) n t h, length-map vs (λ (x : Tuple). x.plain), ap length e) in
    same_Some u.plain t (sym (plain_read ts n u within read) ∙ (ap (λ (xs : List Tuple). slice_get (map (λ x. x.plain) xs) n) (sym e) ∙ h))

-- What the test of two tuples says of their data.
pub same_told : (u t : Tuple) → true ≡ eq_by_cmp tuple_order u t → u.plain ≡ t.plain
same_told u t h = tied u.plain t.plain (sym h)

pub other_told : (u t : Tuple) → false ≡ eq_by_cmp tuple_order u t → u.plain ≢ t.plain
other_told u t h e = true≢false (sym (ap is_eq (tied_with_itself t.plain)) ∙ (ap (λ (x : TupleData). eq_by_cmp tuple_cmp x t.plain) (sym e) ∙ sym h))

pub lacks_more : (ts : List Tuple) (n : ℕ) (t : TupleData) (u : Tuple) → n < length ts → u ≡ get_or ts n u → u.plain ≢ t → LacksBefore (map (λ x. x.plain) ts) n t → LacksBefore (map (λ x. x.plain) ts) (n + 1) t
lacks_more ts n t u within read other before k low h = elim (cases_lt k n) [
  | inl early ↦ before k early h
  | inr late ↦
      let same : n ≡ k = omega (arith, low, late) in
      other (vertex_read ts ts n u t refl read (ap (slice_get (map (λ x. x.plain) ts)) same ∙ h))
]

pub plain_there : (ts : List Tuple) (n : ℕ) (t : TupleData) (u : Tuple) → n < length ts → u ≡ get_or ts n u → u.plain ≡ t → slice_get (map (λ x. x.plain) ts) n ≡ Some t
plain_there ts n t u within read same = plain_read ts n u within read ∙ ap Some same

pub lacks_all : (ts : List Tuple) (n : ℕ) (t : TupleData) → length ts ≤ n → LacksBefore (map (λ x. x.plain) ts) n t → ¬ (Contains (map (λ x. x.plain) ts) t)
lacks_all ts n t all lacks c =
    let k : (j : ℕ) × (slice_get (map (λ x. x.plain) ts) j ≡ Some t) = place_contained (map (λ x. x.plain) ts) t c in
    lacks k.0 (omega (arith, slice_get_within (map (λ x. x.plain) ts) k.0 t k.1, length-map ts (λ (x : Tuple). x.plain), all)) k.1

-- ---- the end of an edge
pub end_found : (ts : List TupleData) (t : TupleData) (r : Option ℕ) → MatchOption r (¬ (Contains ts t)) (λ v. slice_get ts v ≡ Some t) → Contains ts t → IsSome r
end_found ts t None h c = absurd (h c)
end_found ts t (Some v) h c = search rules

pub end_at : (ts : List TupleData) (t : TupleData) (r : Option ℕ) (v : ℕ) → MatchOption r (¬ (Contains ts t)) (λ w. slice_get ts w ≡ Some t) → r ≡ Some v → slice_get ts v ≡ Some t
end_at ts t r v h e = subst (λ (o : Option ℕ). MatchOption o (¬ (Contains ts t)) (λ w. slice_get ts w ≡ Some t)) e h

-- ---- the list of a generator
module _ (p : PresentationData) (k : ℕ) (can : CanList p k) (s : Start) (at : slice_get p.generators (k - 1) ≡ Some s) where
  abbrev pub joined_at : Joins p s
  joined_at = can.joins s at

  pub from_within : s.0 < length p.tree
  from_within = omega (arith, slice_get_within p.vertices s.0 joined_at.tuple joined_at.starts, can.count)

  pub to_within : (to : ℕ) (t : TupleData) → slice_get p.vertices to ≡ Some t → to < length p.tree
  to_within to t h = omega (arith, slice_get_within p.vertices to t h, can.count)

  place_is : (v : ℕ) (t : TupleData) → slice_get p.vertices v ≡ Some t → place_of p.vertices t ≡ v
  place_is v t h = can.distinct (place_of p.vertices t) v t (place_there p.vertices t (contained p.vertices v t h)) h

  pub list_is : (to : ℕ) → slice_get p.vertices to ≡ Some (act joined_at.tuple s.1) →
      generator_moves p k ≡ p.trace ++ ((path_to p.tree s.0 ++ s.1 ∷ inverse_list (path_to p.tree to)) ++ inverse_list p.trace)
  list_is to h =
      ap (start_moves p) at
      ∙ (ap (way_round p s.1) joined_at.starts
      ∙ (ap (λ (v : ℕ). p.trace ++ ((path_to p.tree v ++ s.1 ∷ inverse_list (path_of p (act joined_at.tuple s.1))) ++ inverse_list p.trace)) (place_is s.0 joined_at.tuple joined_at.starts)
      ∙ ap (λ (v : ℕ). p.trace ++ ((path_to p.tree s.0 ++ s.1 ∷ inverse_list (path_to p.tree v)) ++ inverse_list p.trace)) (place_is to (act joined_at.tuple s.1) h)))
