-- What a change of one number of a table does to the flow out of and into each letter.
use Rattle.std.proofs.Common.{◌≡◌, ◌≢◌, ℕ, ◌+◌, ◌<◌, ◌==◌, true, false, cond, refl, sym, ap, subst, inl, inr, ◌⊎◌, arith}
use Rattle.std.specs.Prelude.{eqb}
use Rattle.std.proofs.lemmas.Bool.{eqb-true, eqb-false, eq-eqb, ne_eqb}
use Rattle.wh_words.specs.Flows.{outflow, inflow, IsWithin, IsFlow}
use Rattle.wh_flow.specs.Rerouting.{HaveOneNetFlow, IsMoved, at}
use Rattle.wh_flow.proofs.Sums.{sum-same, sum-one}

-- The table g is f but for d more at (p, q).
module _ (f g : ℕ → ℕ → ℕ) (p q d : ℕ) (hp : p < 52) (hq : q < 52)
    (same : (x y : ℕ) → x < 52 → y < 52 → (x ≢ p) ⊎ (y ≢ q) → g x y ≡ f x y) (more : g p q ≡ f p q + d) where
  pub out-raised : (v : ℕ) → v < 52 → outflow g v ≡ outflow f v + at v p d
  out-raised v l = elim (eqb v p) as (λ t. eqb v p ≡ t → outflow g v ≡ outflow f v + cond t d 0) [
    | true ↦ λ e. subst (λ (k : ℕ). outflow g k ≡ outflow f k + d) (sym (eqb-true v p e))
        (sum-one 52 q d (λ y. g p y) (λ y. f p y) hq (λ y h m. same p y hp h (inr m)) more)
    | false ↦ λ e. omega (arith, sum-same 52 (λ y. g v y) (λ y. f v y) (λ y h. same v y l h (inl (eqb-false v p e))))
  ] refl

  pub in-raised : (v : ℕ) → v < 52 → inflow g v ≡ inflow f v + at v q d
  in-raised v l = elim (eqb v q) as (λ t. eqb v q ≡ t → inflow g v ≡ inflow f v + cond t d 0) [
    | true ↦ λ e. subst (λ (k : ℕ). inflow g k ≡ inflow f k + d) (sym (eqb-true v q e))
        (sum-one 52 p d (λ x. g x q) (λ x. f x q) hp (λ x h m. same x q h hq (inl m)) more)
    | false ↦ λ e. omega (arith, sum-same 52 (λ x. g x v) (λ x. f x v) (λ x h. same x v h l (inr (eqb-false v q e))))
  ] refl

  pub raised-moved : IsMoved f g p q d
  raised-moved v l = omega (arith, out-raised v l, in-raised v l)

  pub lowered-moved : IsMoved g f q p d
  lowered-moved v l = omega (arith, out-raised v l, in-raised v l)

pub moved-on : (f g h : ℕ → ℕ → ℕ) (p q r d : ℕ) → IsMoved f g q r d → IsMoved g h p q d → IsMoved f h p r d
moved-on f g h p q r d a b v l = omega (arith, a v l, b v l)

pub moved-back : (f g h : ℕ → ℕ → ℕ) (p q d : ℕ) → IsMoved f g p q d → IsMoved g h q p d → HaveOneNetFlow f h
moved-back f g h p q d a b v l = omega (arith, a v l, b v l)

pub nets_on : (f g h : ℕ → ℕ → ℕ) → HaveOneNetFlow f g → HaveOneNetFlow g h → HaveOneNetFlow f h
nets_on f g h a b v l = omega (arith, a v l, b v l)

-- A flow stays one.
pub still-flow : (c f g : ℕ → ℕ → ℕ) (s t : ℕ) → IsFlow c f s t → IsWithin c g → HaveOneNetFlow f g → IsFlow c g s t
still-flow c f g s t fl w e = record { within = w; conserved = λ x h i j. omega (arith, fl.conserved x h i j, e x h) }

at-other : (v p d : ℕ) → v ≢ p → cond (v == p) d 0 ≡ 0
at-other v p d e = ap (λ b. cond b d 0) (ne_eqb v p e)

at-here : (v d : ℕ) → cond (v == v) d 0 ≡ d
at-here v d = ap (λ b. cond b d 0) (eq-eqb v v refl)

pub pushed-flow : (c f g : ℕ → ℕ → ℕ) (s t d : ℕ) → IsFlow c f s t → IsWithin c g → IsMoved f g s t d → IsFlow c g s t
pushed-flow c f g s t d fl w m = record { within = w; conserved = λ x h i j. omega (arith, fl.conserved x h i j, m x h, at-other x s d i, at-other x t d j) }

pub pushed-value : (f g : ℕ → ℕ → ℕ) (s t d : ℕ) → s < 52 → s ≢ t → IsMoved f g s t d → outflow g s + inflow f s ≡ outflow f s + inflow g s + d
pushed-value f g s t d l e m = omega (arith, m s l, at-here s d, at-other s t d e)
