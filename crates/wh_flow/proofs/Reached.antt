-- What a search that ends without finding its sink means for flows and cuts.
use Rattle.std.proofs.Common.{◌≡◌, ◌≢◌, ℕ, ◌-◌, ◌<◌, ◌≤◌, ◌==◌, Bool, true, false, cond, refl, sym, ap, ◌∙◌, subst, inl, inr, arith, List}
use Rattle.std.specs.Prelude.{leb, ltb, ◌^◌}
use Rattle.std.proofs.lemmas.Bool.Decides.{nat_tests}
use Rattle.std.proofs.lemmas.Bool.{cases_Bool, cases_lt, true≢false}
use Rattle.std.proofs.lemmas.Nat.Bits.{bit_at-zero}
use Rattle.wh_words.specs.LetterSets.{in_set}
use Rattle.wh_words.specs.Flows.{IsFlow, IsWithin, HasMoreValueThan, FillsLeastCut, IsMaximum, IsLeastCut, IsClosed, Separates, IsReach, place}
use Rattle.wh_flow.specs.Tables.{cell}
use Rattle.wh_flow.specs.Rerouting.{IsClosedFrom}
use Rattle.wh_flow.specs.Searches.{residual, goes_back, IsOfLetters, IsPushed, IsLed, IsShut, IsSearched}
use Rattle.wh_flow.proofs.Cuts.{closed-maximum, least-cut, is-full}
use Rattle.wh_flow.proofs.Entries.{pushed-flow, pushed-value}
use Rattle.wh_flow.proofs.Pushes.{no_residual, residual_lowers, past_no_residual}
use Rattle.wh_flow.proofs.Searching.{small_set}

pub none_seen : (t : ℕ) → in_set 0 t ≡ false
none_seen t = ap (λ b. b == 1) (bit_at-zero t)

module _ (cap flow : List ℕ) (new from v t : ℕ) (q : IsSearched cap flow 0 new from v t) where
  pub searched_apart : Separates v t (in_set new)
  searched_apart = record { holds = q.start; omits = q.omits (none_seen t) }

  no-way : (x y : ℕ) → x < 52 → y < 52 → in_set new x ≡ true → in_set new y ≡ false → residual cap flow from x y ≡ 0
  no-way x y h i a b = elim (cases_lt 0 (residual cap flow from x y)) [
    | inl r ↦ absurd (true≢false (sym (q.shut x h (none_seen x) a y i r) ∙ b))
    | inr r ↦ omega (arith, r)
  ]

  pub searched_closed : IsClosedFrom from (cell cap) (cell flow) (in_set new)
  searched_closed = record {
    full = λ x y h i a b l. (no_residual cap flow from x y (no-way x y h i a b)).0 l;
    empty = λ x y h i a b l. (no_residual cap flow from x y (no-way x y h i a b)).1 l;
  }

residual-zero : (cap flow : List ℕ) (x y : ℕ) → cell cap x y ≤ cell flow x y → cell flow y x ≡ 0 → residual cap flow 0 x y ≡ 0
residual-zero cap flow x y h e = elim (cases_Bool (goes_back flow 0 x y)) [
  | inl b ↦ (residual_lowers cap flow 0 x y b).1 ∙ e
  | inr b ↦ (let e : cell cap x y - cell flow x y ≡ 0 = omega (arith, h) in
      subst (λ (k : Bool). cond k (cell flow y x) (cond (leb 0 (place x y)) (cell cap x y - cell flow x y) 0) ≡ 0) (sym b) (either (leb 0 (place x y)) (cell cap x y - cell flow x y) e))
]
  where
    either : (b : Bool) (m : ℕ) → m ≡ 0 → cond b m 0 ≡ 0
    either true m e = e
    either false m e = refl

-- A closed set is shut.
closed-shut : (cap flow : List ℕ) (set : ℕ → Bool) → IsClosed (cell cap) (cell flow) set → IsShut cap flow 0 set
closed-shut cap flow set cl x y h i a r = elim (cases_Bool (set y)) [
  | inl b ↦ b
  | inr b ↦ absurd (omega (arith, r, residual-zero cap flow x y (cl.full x y h i a b) (cl.empty x y h i a b)))
]

closed-whole : (c f : ℕ → ℕ → ℕ) (set : ℕ → Bool) → IsClosedFrom 0 c f set → IsClosed c f set
closed-whole c f set cl = record {
  full = λ x y h i a b. cl.full x y h i a b (omega arith);
  empty = λ x y h i a b. cl.empty x y h i a b (omega arith);
}

module _ (cap flow : List ℕ) (new s t : ℕ) (q : IsSearched cap flow 0 new 0 s t) where
  closed : IsClosed (cell cap) (cell flow) (in_set new)
  closed = closed-whole (cell cap) (cell flow) (in_set new) (searched_closed cap flow new 0 s t q)

  pub searched_reach : IsReach (cell cap) (cell flow) s (in_set new)
  searched_reach = record {
    holds = q.start;
    closed = closed;
    least = λ other o cl x h a. q.least other o (closed-shut cap flow other cl) x h (none_seen x) a;
  }

  module _ (hs : s < 52) (fl : IsFlow (cell cap) (cell flow) s t) where
    pub searched_least : IsLeastCut (cell cap) s t (in_set new)
    searched_least = least-cut (cell cap) (cell flow) (in_set new) s t hs fl (searched_apart cap flow new 0 s t q) closed searched_reach.least

    pub searched_cut : FillsLeastCut (cell cap) (cell flow) s t
    searched_cut = record {
      set = in_set new;
      cut = searched_least;
      value = is-full (cell flow) (in_set new) (cell cap) s t hs fl (searched_apart cap flow new 0 s t q) closed;
    }

    pub searched_maximum : IsMaximum (cell cap) (cell flow) s t
    searched_maximum = closed-maximum (cell cap) (cell flow) (in_set new) s t hs fl (searched_apart cap flow new 0 s t q) closed

-- ---- a way to the sink
pub pushed_flow : (cap f g : List ℕ) (seen from s t d : ℕ) → IsFlow (cell cap) (cell f) s t → IsPushed cap f g seen from s t d → IsFlow (cell cap) (cell g) s t
pushed_flow cap f g seen from s t d fl p = pushed-flow (cell cap) (cell f) (cell g) s t d fl p.within p.moved

pub pushed_more : (cap f g : List ℕ) (seen from s t d : ℕ) → s < 52 → s ≢ t → 0 < d → IsPushed cap f g seen from s t d → HasMoreValueThan (cell g) (cell f) s
pushed_more cap f g seen from s t d h e l p = omega (arith, l, pushed-value (cell f) (cell g) s t d h e p.moved)

-- A flow than which another has more value isn't greatest.
pub more_not_greatest : (c f g : ℕ → ℕ → ℕ) (s t : ℕ) → IsMaximum c f s t → IsFlow c g s t → HasMoreValueThan g f s → ⊥
more_not_greatest c f g s t gr gl m = absurd (omega (arith, m, gr g gl))

-- Where the flow is greatest, the sink isn't reached, so what is reached is the least cut.
pub reached_cut : (cap f : List ℕ) (new s t : ℕ) → s < 52 → t < 52 → s ≢ t → IsFlow (cell cap) (cell f) s t → IsMaximum (cell cap) (cell f) s t → IsSearched cap f 0 new 0 s 52
    → ((x : ℕ) → x < 52 → in_set 0 x ≡ false → in_set new x ≡ true → IsLed cap f 0 s x) → IsLeastCut (cell cap) s t (in_set new)
reached_cut cap f new s t hs ht ne fl gr q led = searched_least cap f new s t aimed hs fl
  where
    omitted : in_set new t ≡ false
    omitted = elim (cases_Bool (in_set new t)) [
      | inl b ↦ (let way : IsLed cap f 0 s t = led t ht (none_seen t) b in
          absurd (more_not_greatest (cell cap) (cell f) (cell way.new) s t gr (pushed_flow cap f way.new 0 0 s t 1 fl way.pushed)
          (pushed_more cap f way.new 0 0 s t 1 hs ne (omega arith) way.pushed)))
      | inr b ↦ b
    ]

    aimed : IsSearched cap f 0 new 0 s t
    aimed = record { start = q.start; omits = λ _. omitted; shut = q.shut; least = q.least }

-- A search with nothing seen, along all pairs.
pub searched_from_start : (cap f : List ℕ) (none new from s t : ℕ) → none ≡ 0 → from ≡ 0 → IsSearched cap f none new from s t → IsSearched cap f 0 new 0 s t
searched_from_start cap f none new from s t e k q = subst (λ (m : ℕ). IsSearched cap f m new 0 s t) e (subst (λ (m : ℕ). IsSearched cap f none new m s t) k q)

-- What is reached along all pairs from a letter of the first ones are first ones.
pub reached_letters : (letters : ℕ) (cap flow : List ℕ) (new v : ℕ) → letters ≤ 52 → v < letters → IsOfLetters letters cap → IsWithin (cell cap) (cell flow) → IsSearched cap flow 0 new 0 v 52
    → ((x : ℕ) → 52 ≤ x → in_set new x ≡ false) → new < 2 ^ letters
reached_letters letters cap flow new v few lv o w q past = small_set new letters (λ x l. elim (cases_lt x 52) [
  | inl h ↦ elim (cases_Bool (in_set new x)) [
    | inl b ↦ absurd (omega (arith, l, below x (q.least (λ z. ltb z letters) (first v lv) shut x h (none_seen x) b)))
    | inr b ↦ b
  ]
  | inr h ↦ past x (omega (arith, h))
])
  where
    first : (z : ℕ) → z < letters → ltb z letters ≡ true
    first z l = grind (arith, nat_tests)

    below : (z : ℕ) → ltb z letters ≡ true → z < letters
    below z e = grind (arith, nat_tests)

    shut : IsShut cap flow 0 (λ z. ltb z letters)
    shut x y h i a r = elim (cases_lt y letters) [
      | inl l ↦ first y l
      | inr l ↦ absurd (omega (arith, r, past_no_residual letters cap flow 0 x y o w h i (omega (arith, l))))
    ]
