-- What it does to a flow when some of it is taken along one edge, and along a way of edges.
use Rattle.std.proofs.Common.{◌≡◌, ℕ, ◌+◌, ◌-◌, ◌<◌, ◌≤◌, ◌==◌, Bool, true, false, cond, refl, sym, ap, ◌∙◌, subst, inl, inr, ◌⊎◌, arith, List, length-set, get_or}
use Rattle.std.specs.Prelude.{ltb, leb, ◌&&◌}
use Rattle.std.proofs.lemmas.Bool.{cases_Bool, cases_eq, true≢false}
use Rattle.std.proofs.lemmas.Bool.Decides.{nat_tests}
use Rattle.wh_words.specs.LetterSets.{in_set}
use Rattle.wh_words.specs.Flows.{outflow, inflow, IsWithin, place}
use Rattle.wh_flow.specs.Tables.{cell, IsTable, with_cell}
use Rattle.wh_flow.specs.Searches.{residual, goes_back, Grew, IsOfLetters, IsShifted, IsPushed, IsLed}
use Rattle.wh_flow.proofs.Cells.{cell-same, cell-other, place-apart}
use Rattle.wh_flow.proofs.Entries.{raised-moved, lowered-moved, moved-on}

module _ (cap old : List ℕ) (from x y d : ℕ) (size : IsTable old) (hx : x < 52) (hy : y < 52) (w : IsWithin (cell cap) (cell old)) where
  pub lowered : d ≤ cell old y x → from ≤ place y x → IsShifted cap old (with_cell old y x (cell old y x - d)) from x y d
  lowered few late = record {
    within = λ u v h i. elim (cases_eq (place u v) (place y x)) [
      | inl e ↦ subst (λ (k : ℕ). get_or new k 0 ≤ get_or cap k 0) (sym e) (omega (arith, here, w y x hy hx))
      | inr e ↦ omega (arith, cell-other old y x (cell old y x - d) u v e, w u v h i)
    ];
    moved = lowered-moved (cell new) (cell old) y x d hy hx (λ u v h i e. sym (cell-other old y x (cell old y x - d) u v (place-apart y x u v hx i e))) (omega (arith, here, few));
    front = λ u v h i l. sym (cell-other old y x (cell old y x - d) u v (λ e. absurd (omega (arith, e, l, late))));
    row = λ u v h i a b. sym (cell-other old y x (cell old y x - d) u v (place-apart y x u v hx i (inl b)));
    column = λ u v h i a b. sym (cell-other old y x (cell old y x - d) u v (place-apart y x u v hx i (inr a)));
  }
    where
      new : List ℕ
      new = with_cell old y x (cell old y x - d)

      here : cell (with_cell old y x (cell old y x - d)) y x ≡ cell old y x - d
      here = cell-same old y x (cell old y x - d) size hy hx

  pub raised : cell old x y + d ≤ cell cap x y → from ≤ place x y → IsShifted cap old (with_cell old x y (cell old x y + d)) from x y d
  raised few late = record {
    within = λ u v h i. elim (cases_eq (place u v) (place x y)) [
      | inl e ↦ subst (λ (k : ℕ). get_or (with_cell old x y (cell old x y + d)) k 0 ≤ get_or cap k 0) (sym e) (omega (arith, here, few))
      | inr e ↦ omega (arith, cell-other old x y (cell old x y + d) u v e, w u v h i)
    ];
    moved = raised-moved (cell old) (cell (with_cell old x y (cell old x y + d))) x y d hx hy (λ u v h i e. cell-other old x y (cell old x y + d) u v (place-apart x y u v hy i e)) here;
    front = λ u v h i l. sym (cell-other old x y (cell old x y + d) u v (λ e. absurd (omega (arith, e, l, late))));
    row = λ u v h i a b. sym (cell-other old x y (cell old x y + d) u v (place-apart x y u v hy i (inl a)));
    column = λ u v h i a b. sym (cell-other old x y (cell old x y + d) u v (place-apart x y u v hy i (inr b)));
  }
    where
      here : cell (with_cell old x y (cell old x y + d)) x y ≡ cell old x y + d
      here = cell-same old x y (cell old x y + d) size hx hy

pub residual_lowers : (cap flow : List ℕ) (from x y : ℕ) → goes_back flow from x y ≡ true → (from ≤ place y x) × (residual cap flow from x y ≡ cell flow y x)
residual_lowers cap flow from x y e = (grind (arith, nat_tests), ap (λ b. cond b (cell flow y x) (cond (leb from (place x y)) (cell cap x y - cell flow x y) 0)) e)

pub residual_raises : (cap flow : List ℕ) (from x y d : ℕ) → goes_back flow from x y ≡ false → 0 < d → d ≤ residual cap flow from x y → (from ≤ place x y) × (cell flow x y + d ≤ cell cap x y)
residual_raises cap flow from x y d e h l = below (leb from (place x y)) refl (subst (λ (b : Bool). d ≤ cond b (cell flow y x) (cond (leb from (place x y)) (cell cap x y - cell flow x y) 0)) e l)
  where
    below : (b : Bool) → leb from (place x y) ≡ b → d ≤ cond b (cell cap x y - cell flow x y) 0 → (from ≤ place x y) × (cell flow x y + d ≤ cell cap x y)
    below true k m = (grind (arith, nat_tests), omega (arith, m, h))
    below false k m = absurd (omega (arith, m, h))

-- An edge without residual capacity.
pub no_residual : (cap flow : List ℕ) (from x y : ℕ) → residual cap flow from x y ≡ 0 → (from ≤ place x y → cell cap x y ≤ cell flow x y) × (from ≤ place y x → cell flow y x ≡ 0)
no_residual cap flow from x y e = (grind (arith, nat_tests), grind (arith, nat_tests))

pub pushed_none : (cap flow : List ℕ) (seen : ℕ) (from v t d : ℕ) → IsWithin (cell cap) (cell flow) → v ≡ t → IsPushed cap flow flow seen from v t d
pushed_none cap flow seen from v t d w e = record {
  within = w;
  moved = λ x l. ap (λ k. (outflow (cell flow) x + inflow (cell flow) x) + cond (x == k) d 0) (sym e);
  front = λ x y h i l. refl;
  row = λ x y h i l. refl;
  column = λ x y h i l. refl;
}

-- The way on from y, and then the edge from v to y.
pub pushed_on : (cap f g h : List ℕ) (old seen : ℕ) (from v y t d : ℕ) → v < 52 → y < 52 → in_set old v ≡ false → in_set seen y ≡ false → Grew old seen
    → IsPushed cap f g seen from y t d → IsShifted cap g h from v y d → IsPushed cap f h old from v t d
pushed_on cap f g h old seen from v y t d lv ly nv ny grew p s = record {
  within = s.within;
  moved = moved-on (cell f) (cell g) (cell h) v y t d p.moved s.moved;
  front = λ a b i j l. p.front a b i j l ∙ s.front a b i j l;
  row = λ a b i j e. p.row a b i j (grew a e) ∙ s.row a b i j (λ k. true≢false (sym e ∙ ap (in_set old) k ∙ nv)) (λ k. true≢false (sym (grew a e) ∙ ap (in_set seen) k ∙ ny));
  column = λ a b i j e. p.column a b i j (grew b e) ∙ s.column a b i j (λ k. true≢false (sym e ∙ ap (in_set old) k ∙ nv)) (λ k. true≢false (sym (grew b e) ∙ ap (in_set seen) k ∙ ny));
}

unfoldable pub residual-at : ℕ → ℕ → ℕ → ℕ → ℕ → ℕ → ℕ
residual-at from x y back there c = cond (leb from (place y x) && ltb 0 back) back (cond (leb from (place x y)) (c - there) 0)

-- A way by letters that weren't seen keeps the residual capacities from a seen letter.
pub residual_kept : (cap f g : List ℕ) (seen : ℕ) (from v y t d : ℕ) → v < 52 → y < 52 → in_set seen v ≡ true → IsPushed cap f g seen from y t d → residual cap f from v y ≡ residual cap g from v y
unfolding residual-at
residual_kept cap f g seen from v y t d lv ly e p =
    ap (λ b. residual-at from v y b (cell f v y) (cell cap v y)) (p.column y v ly lv e) ∙ ap (λ a. residual-at from v y (cell g y v) a (cell cap v y)) (p.row v y lv ly e)

-- ---- letters past the rank
pub past_no_residual : (letters : ℕ) (cap flow : List ℕ) (from x y : ℕ) → IsOfLetters letters cap → IsWithin (cell cap) (cell flow) → x < 52 → y < 52 → letters ≤ y → residual cap flow from x y ≡ 0
past_no_residual letters cap flow from x y o w h i l = none (goes_back flow from x y) (leb from (place x y)) (cell flow y x) (cell cap x y - cell flow x y)
    (omega (arith, w y x i h, o y x i h (inl l))) (omega (arith, o x y h i (inr l)))
  where
    none : (b c : Bool) (back more : ℕ) → back ≡ 0 → more ≡ 0 → cond b back (cond c more 0) ≡ 0
    none true c back more e k = e
    none false true back more e k = k
    none false false back more e k = refl

-- ---- ways of one unit
pub led_here : (cap flow : List ℕ) (seen v : ℕ) → IsTable flow → IsWithin (cell cap) (cell flow) → IsLed cap flow seen v v
led_here cap flow seen v table w = record { new = flow; table = table; pushed = pushed_none cap flow seen 0 v v 1 w refl }

pub led_on : (cap f : List ℕ) (old seen v y x : ℕ) → v < 52 → y < 52 → in_set old v ≡ false → in_set seen v ≡ true → in_set seen y ≡ false → Grew old seen
    → 0 < residual cap f 0 v y → IsLed cap f seen y x → IsLed cap f old v x
led_on cap f old seen v y x lv ly nv sv ny grew rm led = shifted (cases_Bool (goes_back led.new 0 v y))
  where
    there : 0 < residual cap led.new 0 v y
    there = subst (λ (k : ℕ). 0 < k) (residual_kept cap f led.new seen 0 v y x 1 lv ly sv led.pushed) rm

    shifted : (goes_back led.new 0 v y ≡ true) ⊎ (goes_back led.new 0 v y ≡ false) → IsLed cap f old v x
    shifted (inl b) = let r : (0 ≤ place y v) × (residual cap led.new 0 v y ≡ cell led.new y v) = residual_lowers cap led.new 0 v y b in record {
      new = with_cell led.new y v (cell led.new y v - 1);
      table = length-set led.new (place y v) (cell led.new y v - 1) ∙ led.table;
      pushed = pushed_on cap f led.new (with_cell led.new y v (cell led.new y v - 1)) old seen 0 v y x 1 lv ly nv ny grew led.pushed
          (lowered cap led.new 0 v y 1 led.table lv ly led.pushed.within (omega (arith, there, r.1)) r.0);
    }
    shifted (inr b) = let r : (0 ≤ place v y) × (cell led.new v y + 1 ≤ cell cap v y) = residual_raises cap led.new 0 v y 1 b (omega arith) there in record {
      new = with_cell led.new v y (cell led.new v y + 1);
      table = length-set led.new (place v y) (cell led.new v y + 1) ∙ led.table;
      pushed = pushed_on cap f led.new (with_cell led.new v y (cell led.new v y + 1)) old seen 0 v y x 1 lv ly nv ny grew led.pushed
          (raised cap led.new 0 v y 1 led.table lv ly led.pushed.within r.1 r.0);
    }
