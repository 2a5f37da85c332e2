-- What a set has after tuples were added.
use Rattle.std.proofs.Common.{◌≡◌, ◌⊎◌, ◌↔◌, ℕ, ◌+◌, ◌<◌, ◌≤◌, List, [], ◌∷◌, ◌++◌, length, get_or, map, take, Contains, refl, sym, ap, ◌∙◌, subst, inl, inr, ⊎_elim}
use Rattle.std.proofs.lemmas.List.{map_push, take_more, take_all}
use Rattle.std.proofs.lemmas.List.Elements.{Contains-append_left, Contains-push, Contains-push_cases}
use Rattle.wh_words.proofs.Elements.{contains_none, contains_first, contains_later, contains_cases}
use Rattle.wh_words.specs.Tuples.{TupleData}
use Rattle.wh_sets.specs.TupleSets.{IsAdded, AreAdded, HaveSameTuples}
use Rattle.wh_sets.specs.TupleSets.AreAdded.{none, next}

-- ---- one tuple
pub added_either : (old new : List TupleData) (t : TupleData) → IsAdded old t new → (u : TupleData) → Contains new u ↔ (Contains old u ⊎ (t ≡ u))
added_either old new t (inl a) u = subst (λ ts. Contains ts u ↔ (Contains old u ⊎ (t ≡ u))) (sym a.1) (λ c. inl c, λ d. ⊎_elim (λ c. c) (λ e. subst (Contains old) e a.0) d)
added_either old new t (inr a) u = subst (λ ts. Contains ts u ↔ (Contains old u ⊎ (t ≡ u))) (sym a.1) (
  λ c. Contains-push_cases old t u c,
  λ d. ⊎_elim (λ c. Contains-append_left old (t ∷ []) u c) (λ e. subst (Contains (old ++ t ∷ [])) e (Contains-push old t)) d,
)

-- What was there stays, and the tuple is there then.
pub added_keeps : (old new : List TupleData) (t u : TupleData) → IsAdded old t new → Contains old u → Contains new u
added_keeps old new t u a c = (added_either old new t a u).1 (inl c)

pub added_is_there : (old new : List TupleData) (t : TupleData) → IsAdded old t new → Contains new t
added_is_there old new t a = (added_either old new t a t).1 (inr refl)

-- ---- the tuples of a list
added_then : {old mid new : List TupleData} {ts : List TupleData} {t : TupleData} → AreAdded old ts mid → IsAdded mid t new → AreAdded old (ts ++ t ∷ []) new
added_then none a = next a none
added_then (next b rest) a = next b (added_then rest a)

pub added_start : {X : Type 0} (f : X → TupleData) (xs : List X) (set : List TupleData) → set ≡ [] → AreAdded [] (map f (take 0 xs)) set
added_start f xs set e = subst (AreAdded [] []) (sym e) none

pub added_more : {X : Type 0} (f : X → TupleData) (xs : List X) (i : ℕ) (x : X) (old new : List TupleData) → i < length xs → x ≡ get_or xs i x → AreAdded [] (map f (take i xs)) old → IsAdded old (f x) new →
    AreAdded [] (map f (take (i + 1) xs)) new
added_more f xs i x old new l e all one =
    subst (λ us. AreAdded [] us new) (sym (ap (map f) (take_more xs i x l ∙ ap (λ y. take i xs ++ y ∷ []) (sym e)) ∙ map_push f (take i xs) x)) (added_then all one)

pub added_all : {X : Type 0} (f : X → TupleData) (xs : List X) (i : ℕ) (set : List TupleData) → length xs ≤ i → AreAdded [] (map f (take i xs)) set → AreAdded [] (map f xs) set
added_all f xs i set l all = subst (λ ys. AreAdded [] (map f ys) set) (take_all i xs l) all

has_either : {old new ts : List TupleData} → AreAdded old ts new → (u : TupleData) → Contains new u ↔ (Contains old u ⊎ Contains ts u)
has_either none u = (λ c. inl c, λ d. ⊎_elim (λ c. c) (λ c. absurd (contains_none u c)) d)
has_either {old} {new} {ts = t ∷ ts} (next {mid = mid} one rest) u =
    let first = added_either old mid t one u in
    let others = has_either rest u in (
      λ c. ⊎_elim (λ m. ⊎_elim (λ o. inl o) (λ e. inr (subst (Contains (t ∷ ts)) e (contains_first t ts))) (first.0 m)) (λ l. inr (contains_later t ts u l)) (others.0 c),
      λ d. others.1 (⊎_elim (λ o. inl (first.1 (inl o))) (λ l. ⊎_elim (λ e. inl (first.1 (inr e))) (λ r. inr r) (contains_cases t ts u l)) d),
    )

-- A set to which the tuples of a list were added has the same tuples as the list.
pub same_tuples : (ts set : List TupleData) → AreAdded [] ts set → HaveSameTuples set ts
same_tuples ts set all u =
    let both = has_either all u in
    (λ c. ⊎_elim (λ none. absurd (contains_none u none)) (λ l. l) (both.0 c), λ l. both.1 (inr l))
