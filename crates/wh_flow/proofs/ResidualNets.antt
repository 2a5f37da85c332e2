-- The masks of a residual network stay right where its flow or its place changes.
use Rattle.std.proofs.Common.{◌≡◌, ◌≢◌, ℕ, ◌+◌, ◌-◌, ◌<◌, ◌≤◌, Bool, true, false, cond, refl, sym, ap, ◌∙◌, inl, inr, ◌⊎◌, arith, List, length-set}
use Rattle.std.specs.Prelude.{ltb, leb, ◌&&◌}
use Rattle.std.proofs.lemmas.Bool.{cases_eq, cases_lt, true≢false}
use Rattle.std.proofs.lemmas.Bool.Decides.{nat_tests}
use Rattle.wh_words.specs.Flows.{IsWithin, place}
use Rattle.wh_flow.specs.Tables.{cell, zero_table, with_cell}
use Rattle.wh_flow.specs.Masks.{AreMasksOf}
use Rattle.wh_flow.specs.Searches.{residual, IsShifted}
use Rattle.wh_flow.specs.Residuals.{IsResidualNet, IsLow, IsSameBut}
use Rattle.wh_flow.proofs.Masks.{AgreeBut, swapped, masks_kept}
use Rattle.wh_flow.proofs.Rounds.{zero_flow}
use Rattle.wh_flow.proofs.Cells.{cell-other, cell-zero, zero-table, place-apart}
use Rattle.wh_flow.proofs.Pushes.{lowered, residual-at}

-- ---- numbers that change
pub shift_agrees : (cap f g : List ℕ) (from x y : ℕ) → x < 52 → y < 52 → IsSameBut f g x y → AgreeBut (residual cap f from) (residual cap g from) x y
unfolding residual-at
shift_agrees cap f g from x y hx hy kept u v h i a b =
    ap (λ k. residual-at from u v k (cell f u v) (cell cap u v)) (kept v u i h (place-apart x y v u hy h (swapped b)) (place-apart y x v u hx h (swapped a)))
    ∙ ap (λ k. residual-at from u v (cell g v u) k (cell cap u v)) (kept u v h i (place-apart x y u v hy i a) (place-apart y x u v hx i b))

leb-next : (k p : ℕ) → p ≢ k → leb k p ≡ leb (k + 1) p
leb-next k p e = grind (arith, nat_tests)

pub left_out_agrees : (cap f : List ℕ) (from x y : ℕ) → x < 52 → y < 52 → from ≡ place x y → AgreeBut (residual cap f from) (residual cap f (from + 1)) x y
left_out_agrees cap f from x y hx hy e u v h i a b =
    ap (λ k. cond (k && ltb 0 (cell f v u)) (cell f v u) (cond (leb from (place u v)) (cell cap u v - cell f u v) 0))
    (leb-next from (place v u) (λ k. place-apart x y v u hy h (swapped b) (k ∙ e)))
    ∙ ap (λ k. cond (leb (from + 1) (place v u) && ltb 0 (cell f v u)) (cell f v u) (cond k (cell cap u v - cell f u v) 0))
    (leb-next from (place u v) (λ k. place-apart x y u v hy i a (k ∙ e)))

pub lower_agrees : (cap f : List ℕ) (from x y m : ℕ) → place x y < from → (u v : ℕ) → residual cap f from u v ≡ residual cap (with_cell f x y m) from u v
lower_agrees cap f from x y m l u v = back (cases_eq (place v u) (place x y)) ∙ forth (cases_eq (place u v) (place x y))
  where
    past : (k : ℕ) → k ≡ place x y → leb from k ≡ false
    past k e = grind (arith, nat_tests)

    closed : (b : Bool) (p q rest : ℕ) → b ≡ false → cond (b && ltb 0 p) p rest ≡ cond (b && ltb 0 q) q rest
    closed false p q rest e = refl
    closed true p q rest e = absurd (true≢false e)

    shut : (b : Bool) (p q : ℕ) → b ≡ false → cond b p 0 ≡ cond b q 0
    shut false p q e = refl
    shut true p q e = absurd (true≢false e)

    back : (place v u ≡ place x y) ⊎ (place v u ≢ place x y) → residual cap f from u v
        ≡ cond (leb from (place v u) && ltb 0 (cell (with_cell f x y m) v u)) (cell (with_cell f x y m) v u) (cond (leb from (place u v)) (cell cap u v - cell f u v) 0)
    back (inl e) = closed (leb from (place v u)) (cell f v u) (cell (with_cell f x y m) v u) (cond (leb from (place u v)) (cell cap u v - cell f u v) 0) (past (place v u) e)
    back (inr e) = ap (λ k. cond (leb from (place v u) && ltb 0 k) k (cond (leb from (place u v)) (cell cap u v - cell f u v) 0)) (sym (cell-other f x y m v u e))

    forth : (place u v ≡ place x y) ⊎ (place u v ≢ place x y)
        → cond (leb from (place v u) && ltb 0 (cell (with_cell f x y m) v u)) (cell (with_cell f x y m) v u) (cond (leb from (place u v)) (cell cap u v - cell f u v) 0)
        ≡ residual cap (with_cell f x y m) from u v
    forth (inl e) = ap (λ k. cond (leb from (place v u) && ltb 0 (cell (with_cell f x y m) v u)) (cell (with_cell f x y m) v u) k)
        (shut (leb from (place u v)) (cell cap u v - cell f u v) (cell cap u v - cell (with_cell f x y m) u v) (past (place u v) e))
    forth (inr e) = ap (λ k. cond (leb from (place v u) && ltb 0 (cell (with_cell f x y m) v u)) (cell (with_cell f x y m) v u) (cond (leb from (place u v)) (cell cap u v - k) 0))
        (sym (cell-other f x y m u v e))

-- Less at a pair that was left out.
pub lowered_residual : (cap f masks : List ℕ) (from x y d : ℕ) → x < 52 → y < 52 → place x y < from → d ≤ cell f x y → IsResidualNet cap f from masks
    → IsResidualNet cap (with_cell f x y (cell f x y - d)) from masks
lowered_residual cap f masks from x y d hx hy l few old = record {
  low = old.low;
  table = length-set f (place x y) (cell f x y - d) ∙ old.table;
  within = less.within;
  successors = masks_kept masks (residual cap f from) (residual cap (with_cell f x y (cell f x y - d)) from) (λ u v _ _. ap (λ m. ltb 0 m) (lower_agrees cap f from x y (cell f x y - d) l u v)) old.successors;
}
  where
    less : IsShifted cap f (with_cell f x y (cell f x y - d)) (place x y) y x d
    less = lowered cap f (place x y) y x d old.table hy hx old.within few (omega arith)

-- ---- pairs at which nothing may flow are left out
skip-back : (a b : Bool) (back other : ℕ) → back ≡ 0 → cond (a && ltb 0 back) back other ≡ cond (b && ltb 0 back) back other
skip-back a b back other e = none a ∙ sym (none b)
  where
    none : (c : Bool) → cond (c && ltb 0 back) back other ≡ other
    none c = ap (λ k. cond k back other) (no c)
      where
        no : (c : Bool) → (c && ltb 0 back) ≡ false
        no c = grind (arith, nat_tests)

skip-there : (a b : Bool) (more : ℕ) → more ≡ 0 → cond a more 0 ≡ cond b more 0
skip-there a b more e = none a ∙ sym (none b)
  where
    none : (c : Bool) → cond c more 0 ≡ 0
    none true = e
    none false = refl

module _ (cap f : List ℕ) (from next : ℕ) (late : from ≤ next) (w : IsWithin (cell cap) (cell f))
    (empty : (x y : ℕ) → x < 52 → y < 52 → from ≤ place x y → place x y < next → cell cap x y ≡ 0) where
  passed : (p : ℕ) → (leb from p ≡ leb next p) ⊎ ((from ≤ p) × (p < next))
  passed p = elim (cases_lt p from) [
    | inl l ↦ inl (grind (arith, nat_tests))
    | inr m ↦ elim (cases_lt p next) [
      | inl l ↦ inr (omega (arith, m), l)
      | inr l ↦ inl (grind (arith, nat_tests))
    ]
  ]

  skip_agrees : (u v : ℕ) → u < 52 → v < 52 → residual cap f from u v ≡ residual cap f next u v
  skip_agrees u v h i = back (passed (place v u)) ∙ there (passed (place u v))
    where
      back : (leb from (place v u) ≡ leb next (place v u)) ⊎ ((from ≤ place v u) × (place v u < next)) → residual cap f from u v
          ≡ cond (leb next (place v u) && ltb 0 (cell f v u)) (cell f v u) (cond (leb from (place u v)) (cell cap u v - cell f u v) 0)
      back (inl e) = ap (λ b. cond (b && ltb 0 (cell f v u)) (cell f v u) (cond (leb from (place u v)) (cell cap u v - cell f u v) 0)) e
      back (inr e) = skip-back (leb from (place v u)) (leb next (place v u)) (cell f v u) (cond (leb from (place u v)) (cell cap u v - cell f u v) 0)
          (omega (arith, w v u i h, empty v u i h e.0 e.1))

      there : (leb from (place u v) ≡ leb next (place u v)) ⊎ ((from ≤ place u v) × (place u v < next))
          → cond (leb next (place v u) && ltb 0 (cell f v u)) (cell f v u) (cond (leb from (place u v)) (cell cap u v - cell f u v) 0) ≡ residual cap f next u v
      there (inl e) = ap (λ b. cond (leb next (place v u) && ltb 0 (cell f v u)) (cell f v u) (cond b (cell cap u v - cell f u v) 0)) e
      there (inr e) = ap (λ k. cond (leb next (place v u) && ltb 0 (cell f v u)) (cell f v u) k)
          (skip-there (leb from (place u v)) (leb next (place u v)) (cell cap u v - cell f u v) (omega (arith, empty u v h i e.0 e.1)))

  pub skipped_residual : (masks : List ℕ) → IsResidualNet cap f from masks → IsResidualNet cap f next masks
  skipped_residual masks old = record {
    low = old.low;
    table = old.table;
    within = old.within;
    successors = masks_kept masks (residual cap f from) (residual cap f next) (λ u v h i. ap (λ m. ltb 0 m) (skip_agrees u v h i)) old.successors;
  }

-- ---- where nothing flows
rest-at : (n m c : ℕ) → cond (leb 0 n && ltb 0 0) 0 (cond (leb 0 m) (c - 0) 0) ≡ c
rest-at n m c = grind (arith, nat_tests)

residual_at_rest : (cap : List ℕ) (v y : ℕ) → v < 52 → y < 52 → residual cap zero_table 0 v y ≡ cell cap v y
unfolding residual-at
residual_at_rest cap v y h i =
    ap (λ k. residual-at 0 v y k (cell zero_table v y) (cell cap v y)) (cell-zero y v i h)
    ∙ ap (λ k. residual-at 0 v y 0 k (cell cap v y)) (cell-zero v y h i)
    ∙ rest-at (place y v) (place v y) (cell cap v y)

pub residual_without_flow : (cap masks : List ℕ) → IsLow cap → AreMasksOf masks (cell cap) → IsResidualNet cap zero_table 0 masks
residual_without_flow cap masks low has = record {
  low = low;
  table = zero-table;
  within = (zero_flow (cell cap) 0 0).within;
  successors = masks_kept masks (cell cap) (residual cap zero_table 0) (λ u v h i. ap (λ m. ltb 0 m) (sym (residual_at_rest cap u v h i))) has;
}
