-- Steps back along the parents of a tree, and ways back.
use Rattle.std.proofs.Common.{◌≡◌, ◌≢◌, ℕ, zero, suc, ◌+◌, ◌*◌, ◌<◌, ◌≤◌, Bool, true, false, nat_eq, ◌||◌, cond, List, [], ◌∷◌, ◌++◌, length, get_or, Option, None, Some, slice_get, inl, inr, refl, sym, ap, ◌∙◌, subst, arith}
use Rattle.std.specs.List.{IsDistinct, AllByRecursion, list_any}
use Rattle.std.proofs.lemmas.Bool.{true≢false, cases_lt, lt-ltb, le-ltb, eqb-true}
use Rattle.std.proofs.lemmas.List.{length_push, get_or_push, get_or_append_left}
use Rattle.std.proofs.lemmas.Map.Steps.{length-le_from_distinct_below}
use Rattle.std.proofs.lemmas.Option.{slice_get-get_or, slice_get_past}
use Rattle.wh_words.specs.Moves.{Move}
use Rattle.wh_level.specs.Trees.{Parents, LeadsBack}
use Rattle.wh_level.specs.Trees.LeadsBack.{root, step}
use Rattle.wh_level.proofs.Paths.{leads_within, leads_one}
use Rattle.wh_cert.specs.WaysBack.{back_by, step_back, steps_back, AreSteps, AreTwice, TellWaysBack}

-- ---- a way back is short
on_way : (parents : Parents) (v : ℕ) (ms : List Move) → LeadsBack parents v ms → List ℕ
on_way parents v [] (root e) = v ∷ []
on_way parents v (m ∷ ms) (step {p = p} e r) = v ∷ on_way parents p ms r

on_way-length : (parents : Parents) (v : ℕ) (ms : List Move) (r : LeadsBack parents v ms) → length (on_way parents v ms r) ≡ length ms + 1
unfolding on_way
on_way-length parents v [] (root e) = omega arith
on_way-length parents v (m ∷ ms) (step {p = p} e r) = omega (arith, on_way-length parents p ms r)

other_place : (v w : ℕ) → v ≢ w → nat_eq v w ≡ false
other_place v w n = by (nat_eq v w) refl
  where
    by : (b : Bool) → nat_eq v w ≡ b → b ≡ false
    by true e = absurd (n (eqb-true v w e))
    by false e = refl

others : (parents : Parents) (v w : ℕ) (ms : List Move) (r : LeadsBack parents w ms) → ((ns : List Move) → LeadsBack parents v ns → length ms < length ns) → AllByRecursion (λ y. nat_eq v y ≡ false) (on_way parents w ms r)
unfolding on_way
others parents v w [] (root e) h = (other_place v w (λ s. absurd (omega (arith, h [] (subst (λ k. LeadsBack parents k []) (sym s) (root e))))), tt)
others parents v w (m ∷ ms) (step {p = p} e r) h =
    (other_place v w (λ s. absurd (omega (arith, h (m ∷ ms) (subst (λ k. LeadsBack parents k (m ∷ ms)) (sym s) (step e r))))), others parents v p ms r (λ ns l. omega (arith, h ns l)))

distinct : (parents : Parents) (v : ℕ) (ms : List Move) (r : LeadsBack parents v ms) → IsDistinct nat_eq (on_way parents v ms r)
unfolding on_way IsDistinct
distinct parents v [] (root e) = (tt, tt)
distinct parents v (m ∷ ms) (step {p = p} e r) =
    (others parents v p ms r (λ ns l. omega (arith, ap length (leads_one parents v (m ∷ ms) ns (step e r) l))), distinct parents p ms r)

within : (parents : Parents) (v : ℕ) (ms : List Move) (r : LeadsBack parents v ms) (q : ℕ) → list_any (nat_eq q) (on_way parents v ms r) ≡ true → q < length parents
unfolding on_way
within parents v [] (root e) q h = by (nat_eq q v) refl h
  where
    by : (b : Bool) → nat_eq q v ≡ b → (b || false) ≡ true → q < length parents
    by true f g = omega (arith, eqb-true q v f, leads_within parents v [] (root e))
    by false f g = absurd (true≢false (sym g))
within parents v (m ∷ ms) (step {p = p} e r) q h = by (nat_eq q v) refl h (within parents p ms r q)
  where
    by : (b : Bool) → nat_eq q v ≡ b → (b || list_any (nat_eq q) (on_way parents p ms r)) ≡ true → (list_any (nat_eq q) (on_way parents p ms r) ≡ true → q < length parents) → q < length parents
    by true f g rest = omega (arith, eqb-true q v f, leads_within parents v (m ∷ ms) (step e r))
    by false f g rest = rest g

pub way_short : (parents : Parents) (v : ℕ) (ms : List Move) → LeadsBack parents v ms → length ms < length parents
way_short parents v ms r = omega (arith, on_way-length parents v ms r, length-le_from_distinct_below (on_way parents v ms r) (length parents) (distinct parents v ms r) (within parents v ms r))

-- ---- steps
past_all : (parents : Parents) (k : ℕ) → steps_back parents k (length parents) ≡ length parents
unfolding steps_back
past_all parents zero = refl
past_all parents (suc k) =
    ap (λ o. steps_back parents k (back_by (length parents) (length parents) o)) (slice_get_past parents (length parents) (omega arith)) ∙ past_all parents k

-- As many steps as a way back has moves, and one more, lead past all places.
leads_past : (parents : Parents) (v k : ℕ) (ms : List Move) → LeadsBack parents v ms → length ms < k → steps_back parents k v ≡ length parents
unfolding steps_back
leads_past parents v zero ms r l = absurd (omega (arith, l))
leads_past parents v (suc k) [] (root e) l = ap (λ o. steps_back parents k (back_by (length parents) v o)) e ∙ past_all parents k
leads_past parents v (suc k) (m ∷ ms) (step {p = p} e r) l =
    ap (λ o. steps_back parents k (back_by (length parents) v o)) e ∙ ap (λ b. steps_back parents k (cond b p v)) (lt-ltb p (length parents) (leads_within parents p ms r)) ∙ leads_past parents p k ms r (omega (arith, l))

-- Steps lead past all places on a way back alone.
led_back : (parents : Parents) (k v : ℕ) → v < length parents → steps_back parents k v ≡ length parents → (ms : List Move) × LeadsBack parents v ms
unfolding steps_back
led_back parents zero v l h = absurd (omega (arith, l, h))
led_back parents (suc k) v l h = by (slice_get parents v) refl (led_back parents k)
  where
    by : (o : Option (Option (ℕ × Move))) → slice_get parents v ≡ o → ((w : ℕ) → w < length parents → steps_back parents k w ≡ length parents → (ms : List Move) × LeadsBack parents w ms) → (ms : List Move) × LeadsBack parents v ms
    by None e more = absurd (cc (sym e ∙ slice_get-get_or parents v None l))
    by (Some None) e more = ([], root e)
    by (Some (Some s)) e more = elim (cases_lt s.0 (length parents)) [
      | inl below ↦
          let (ms, r) = more s.0 below (ap (λ b. steps_back parents k (cond b s.0 v)) (sym (lt-ltb s.0 (length parents) below)) ∙ ap (λ o. steps_back parents k (back_by (length parents) v o)) (sym e) ∙ h) in
          (s.1 ∷ ms, step e r)
      | inr above ↦
          more v l (ap (λ b. steps_back parents k (cond b s.0 v)) (sym (le-ltb s.0 (length parents) above)) ∙ ap (λ o. steps_back parents k (back_by (length parents) v o)) (sym e) ∙ h)
    ]

one_within : (parents : Parents) (v : ℕ) (o : Option (Option (ℕ × Move))) → v ≤ length parents → back_by (length parents) v o ≤ length parents
one_within parents v None l = omega arith
one_within parents v (Some None) l = omega arith
one_within parents v (Some (Some s)) l = elim (cases_lt s.0 (length parents)) [
  | inl below ↦ omega (arith, ap (λ b. cond b s.0 v) (lt-ltb s.0 (length parents) below), below)
  | inr above ↦ omega (arith, ap (λ b. cond b s.0 v) (le-ltb s.0 (length parents) above), l)
]

pub steps_within : (parents : Parents) (k v : ℕ) → v ≤ length parents → steps_back parents k v ≤ length parents
unfolding steps_back
steps_within parents zero v l = l
steps_within parents (suc k) v l = steps_within parents k (step_back parents v) (one_within parents v (slice_get parents v) l)

steps_more : (parents : Parents) (j k v : ℕ) → steps_back parents (j + k) v ≡ steps_back parents k (steps_back parents j v)
unfolding steps_back
steps_more parents zero k v = let none : 0 + k ≡ k = omega arith in ap (λ i. steps_back parents i v) none
steps_more parents (suc j) k v =
    let one : suc j + k ≡ suc (j + k) = omega arith in
    ap (λ i. steps_back parents i v) one ∙ steps_more parents j k (step_back parents v)

-- ---- lists of steps
pub no_steps : (parents : Parents) (k : ℕ) → AreSteps parents k 0 []
no_steps parents k = record { count = refl; each = λ v l. absurd (omega (arith, l)) }

pub steps_pushed : (parents : Parents) (j x : ℕ) (to : List ℕ) → x ≡ step_back parents j → AreSteps parents 1 j to → AreSteps parents 1 (j + 1) (to ++ x ∷ [])
unfolding steps_back
steps_pushed parents j x to e are = record {
  count = omega (arith, length_push to x, are.count);
  each = λ v l. elim (cases_lt v j) [
    | inl below ↦ get_or_append_left to (x ∷ []) 0 v (omega (arith, below, are.count)) ∙ are.each v below
    | inr above ↦
        let last : j ≡ v = omega (arith, above, l) in
        get_or_push to x 0 v (are.count ∙ last) ∙ e ∙ ap (step_back parents) last
  ];
}

pub no_twice : (to : List ℕ) → AreTwice to 0 []
no_twice to = record { count = refl; each = λ v l. absurd (omega (arith, l)) }

pub twice_pushed : (to : List ℕ) (j x : ℕ) (twice : List ℕ) → x ≡ get_or to (get_or to j 0) 0 → AreTwice to j twice → AreTwice to (j + 1) (twice ++ x ∷ [])
twice_pushed to j x twice e are = record {
  count = omega (arith, length_push twice x, are.count);
  each = λ v l. elim (cases_lt v j) [
    | inl below ↦ get_or_append_left twice (x ∷ []) 0 v (omega (arith, below, are.count)) ∙ are.each v below
    | inr above ↦
        let last : j ≡ v = omega (arith, above, l) in
        get_or_push twice x 0 v (are.count ∙ last) ∙ e ∙ ap (λ i. get_or to (get_or to i 0) 0) last
  ];
}

pub steps_doubled : (parents : Parents) (k : ℕ) (to twice : List ℕ) → AreSteps parents k (length parents + 1) to → AreTwice to (length to) twice → AreSteps parents (k * 2) (length parents + 1) twice
steps_doubled parents k to twice are doubled = record {
  count = doubled.count ∙ are.count;
  each = λ v l.
      let more : k * 2 ≡ k + k = omega arith in
      doubled.each v (omega (arith, l, are.count)) ∙ ap (λ i. get_or to i 0) (are.each v l)
      ∙ are.each (steps_back parents k v) (omega (arith, steps_within parents k v (omega (arith, l)))) ∙ sym (ap (λ i. steps_back parents i v) more ∙ steps_more parents k k v);
}

pub all_told : (parents : Parents) (k : ℕ) (to : List ℕ) → length parents ≤ k → AreSteps parents k (length parents + 1) to → TellWaysBack parents to
all_told parents k to many are = record {
  count = are.count;
  exact = λ v l. (
    λ e.
        let (ms, r) = led_back parents k v l (sym (are.each v (omega (arith, l))) ∙ e) in
        record { back = ms; leads = r; short = way_short parents v ms r },
    λ way. are.each v (omega (arith, l)) ∙ leads_past parents v k way.back way.leads (omega (arith, way.short, many)),
  );
}

pub steps_inside : (parents : Parents) (k v : ℕ) (to : List ℕ) → AreSteps parents k (length parents + 1) to → v < length to → get_or to v 0 < length to
steps_inside parents k v to are l = omega (arith, are.each v (omega (arith, l, are.count)), steps_within parents k v (omega (arith, l, are.count)), are.count)
