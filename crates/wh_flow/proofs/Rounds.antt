-- The rounds of a greatest flow: where they start, and how many there are.
use Rattle.std.proofs.Common.{◌≡◌, ℕ, ◌+◌, ◌-◌, ◌<◌, ◌≤◌, sym, ◌∙◌, subst, arith, List}
use Rattle.wh_words.specs.Flows.{outflow, inflow, degree, IsFlow, HasMoreValueThan}
use Rattle.wh_flow.specs.Tables.{cell, zero_table}
use Rattle.wh_flow.proofs.Sums.{sum-same, sum-le, sum-zero}
use Rattle.wh_flow.proofs.Cells.{cell-zero}

pub out_most : (c f : ℕ → ℕ → ℕ) (s t : ℕ) → s < 52 → IsFlow c f s t → outflow f s ≤ degree c s
out_most c f s t h fl = sum-le 52 (λ y. f s y) (λ y. c s y) (λ y i. fl.within s y h i)

pub zero_out : (x : ℕ) → x < 52 → outflow (cell zero_table) x ≡ 0
zero_out x h = sum-same 52 (λ y. cell zero_table x y) (λ _. 0) (λ y i. cell-zero x y h i) ∙ sum-zero 52

pub zero_in : (x : ℕ) → x < 52 → inflow (cell zero_table) x ≡ 0
zero_in x h = sum-same 52 (λ y. cell zero_table y x) (λ _. 0) (λ y i. cell-zero y x i h) ∙ sum-zero 52

pub zero_flow : (c : ℕ → ℕ → ℕ) (s t : ℕ) → IsFlow c (cell zero_table) s t
zero_flow c s t = record {
  within = λ x y h i. omega (arith, cell-zero x y h i);
  conserved = λ x h _ _. zero_out x h ∙ sym (zero_in x h);
}

pub starts_flow : (c : ℕ → ℕ → ℕ) (z : List ℕ) (s t : ℕ) → z ≡ zero_table → IsFlow c (cell z) s t
starts_flow c z s t e = subst (λ (l : List ℕ). IsFlow c (cell l) s t) (sym e) (zero_flow c s t)

pub starts_even : (z : List ℕ) (s : ℕ) → s < 52 → z ≡ zero_table → inflow (cell z) s ≡ outflow (cell z) s
starts_even z s h e = subst (λ (l : List ℕ). inflow (cell l) s ≡ outflow (cell l) s) (sym e) (zero_in s h ∙ sym (zero_out s h))

pub gap_falls : (c f g : ℕ → ℕ → ℕ) (s t : ℕ) → s < 52 → IsFlow c g s t → HasMoreValueThan g f s → (degree c s + inflow g s) - outflow g s < (degree c s + inflow f s) - outflow f s
gap_falls c f g s t h gl m = omega (arith, out_most c g s t h gl, m)
