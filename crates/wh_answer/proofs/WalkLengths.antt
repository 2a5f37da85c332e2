-- A first walk is shorter than the level that it lies in, as it meets no tuple twice.
use Rattle.std.proofs.Common.{◌≡◌, ℕ, ◌+◌, ◌<◌, ◌≤◌, false, List, [], ◌∷◌, length, refl, sym, subst, inl, inr, arith}
use Rattle.std.proofs.lemmas.Bool.{cases_Bool}
use Rattle.std.proofs.lemmas.List.Elements.{All-nil, All-cons, All-weaker, All-contains, recursion_from_All}
use Rattle.std.specs.List.{All, IsDistinct}
use Rattle.std.specs.Ordering.{eq_by_cmp}
use Rattle.wh_words.specs.Tuples.{TupleData, tuple_cmp}
use Rattle.wh_words.specs.Moves.{Move}
use Rattle.wh_words.specs.Action.{act}
use Rattle.wh_words.specs.Levels.{Reaches, InLevel, IsLevel, IsFirstWalk}
use Rattle.wh_words.specs.Levels.Reaches.{here, step}
use Rattle.wh_words.proofs.SameTuples.{tied}
use Rattle.wh_level.proofs.LawProofs.{no_more}

-- The tuples on a walk, from its start to its end.
abbrev on_walk : TupleData → List Move → List TupleData
on_walk t [] = t ∷ []
on_walk t (m ∷ ms) = t ∷ on_walk (act t m) ms

on_walk-length : (t : TupleData) (ms : List Move) → length (on_walk t ms) ≡ length ms + 1
on_walk-length t [] = refl
on_walk-length t (m ∷ ms) = omega (arith, on_walk-length (act t m) ms)

on_walk-in_level : (t u : TupleData) (ms : List Move) → Reaches t ms u → All (InLevel t) (on_walk t ms)
on_walk-in_level t u [] here = All-cons (InLevel t) t [] ([], here) (All-nil (InLevel t))
on_walk-in_level t u (m ∷ ms) (step l r) =
    All-cons (InLevel t) t (on_walk (act t m) ms) ([], here)
    (All-weaker (InLevel (act t m)) (InLevel t) (λ v h. (m ∷ h.0, step l h.1)) (on_walk (act t m) ms) (on_walk-in_level (act t m) u ms r))

-- At most so many moves lead from one tuple to another.
abbrev IsWithin : ℕ → TupleData → TupleData → Type 0
IsWithin n u v = (ms : List Move) × Reaches v ms u × (length ms ≤ n)

on_walk-within : (t u : TupleData) (ms : List Move) → Reaches t ms u → All (IsWithin (length ms) u) (on_walk t ms)
on_walk-within t u [] here = All-cons (IsWithin 0 u) t [] ([], here, omega arith) (All-nil (IsWithin 0 u))
on_walk-within t u (m ∷ ms) (step l r) =
    All-cons (IsWithin (length (m ∷ ms)) u) t (on_walk (act t m) ms) (m ∷ ms, step l r, omega arith)
    (All-weaker (IsWithin (length ms) u) (IsWithin (length (m ∷ ms)) u) (λ v h. (h.0, h.1, omega (arith, h.2))) (on_walk (act t m) ms) (on_walk-within (act t m) u ms r))

-- The rest of a shortest walk is one, and doesn't come back to where that began.
on_walk-distinct : (t u : TupleData) (ms : List Move) → Reaches t ms u → ((ns : List Move) → Reaches t ns u → length ms ≤ length ns) → IsDistinct (eq_by_cmp tuple_cmp) (on_walk t ms)
unfolding IsDistinct
on_walk-distinct t u [] here shortest = (tt, tt)
on_walk-distinct t u (m ∷ ms) (step l r) shortest = (
  recursion_from_All Other (on_walk (act t m) ms) (All-weaker (IsWithin (length ms) u) Other other (on_walk (act t m) ms) (on_walk-within (act t m) u ms r)),
  on_walk-distinct (act t m) u ms r (λ ns q. omega (arith, shortest (m ∷ ns) (step l q))),
)
  where
    Other : TupleData → Type 0
    Other v = eq_by_cmp tuple_cmp t v ≡ false

    other : (v : TupleData) → IsWithin (length ms) u v → Other v
    other v h = elim (cases_Bool (eq_by_cmp tuple_cmp t v)) [
      | inl e ↦ absurd (omega (arith, h.2, shortest h.0 (subst (λ (w : TupleData). Reaches w h.0 u) (sym (tied t v e)) h.1)))
      | inr n ↦ n
    ]

pub first_walk-length : (root t : TupleData) (ts : List TupleData) (ms : List Move) → IsLevel root ts → IsFirstWalk root t ms → length ms < length ts
first_walk-length root t ts ms level first =
    omega (
      arith,
      on_walk-length root ms,
      no_more ts (on_walk root ms) (on_walk-distinct root t ms first.leads first.shortest)
          (λ v c. (level.exact v).1 (All-contains (InLevel root) (on_walk root ms) v (on_walk-in_level root t ms first.leads) c)),
    )
