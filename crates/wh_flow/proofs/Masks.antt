-- Masks of the rows of a table: what they say, and how they are written.
use Rattle.std.proofs.Common.{◌≡◌, ◌≢◌, ℕ, ◌+◌, ◌<◌, ◌≤◌, ◌==◌, Bool, true, false, sym, ap, ◌∙◌, subst, inl, inr, ◌⊎◌, arith, List, length, get_or}
use Rattle.std.specs.Prelude.{ltb, ◌&&◌, slice_set}
use Rattle.std.specs.Int.{bit_at}
use Rattle.std.proofs.lemmas.Nat.Bits.{bit_at-zero}
use Rattle.std.proofs.lemmas.List.{get_or-set_same, get_or-set_other}
use Rattle.std.proofs.lemmas.Bool.{cases_eq, cases_lt}
use Rattle.std.proofs.lemmas.Bool.Decides.{nat_tests}
use Rattle.wh_words.specs.LetterSets.{in_set}
use Rattle.wh_flow.specs.Masks.{IsMaskOf, AreMasksOf}

module _ (mask : ℕ) (row : ℕ → ℕ) (y : ℕ) (is : IsMaskOf mask row) where
  pub mask_has : y < 52 → 0 < row y → in_set mask y ≡ true
  mask_has l r = is y (omega (arith, l)) ∙ both l r
    where
      both : y < 52 → 0 < row y → (ltb y 52 && ltb 0 (row y)) ≡ true
      both a b = grind (arith, nat_tests)

  pub mask_leads : y < 64 → in_set mask y ≡ true → (y < 52) × (0 < row y)
  mask_leads l b = let e : (ltb y 52 && ltb 0 (row y)) ≡ true = sym (is y l) ∙ b in (grind (arith, nat_tests), grind (arith, nat_tests))

-- ---- masks that are written bit by bit
both-same : (a b c : Bool) → a ≡ b → (a && c) ≡ (b && c)
both-same a b c e = ap (λ k. k && c) e

next-same : (y k : ℕ) → y ≢ k → ltb y k ≡ ltb y (k + 1)
next-same y k e = grind (arith, nat_tests)

module _ (set k : ℕ) (has : ℕ → ℕ) where
  -- The set has the numbers below k with something.
  abbrev pub IsSetBelow : Type 0
  IsSetBelow = (y : ℕ) → y < 64 → in_set set y ≡ (ltb y k && ltb 0 (has y))

pub set_none : (has : ℕ → ℕ) (set : ℕ) → set ≡ 0 → IsSetBelow set 0 has
set_none has set e y h = ap (λ m. in_set m y) e ∙ none_in y ∙ sym (both-same (ltb y 0) false (ltb 0 (has y)) (none y))
  where
    none : (y : ℕ) → ltb y 0 ≡ false
    none y = grind (arith, nat_tests)

    none_in : (y : ℕ) → in_set 0 y ≡ false
    none_in y = ap (λ b. b == 1) (bit_at-zero y)

module _ (set k : ℕ) (has : ℕ → ℕ) (below : IsSetBelow set k has) where
  pub set_with : (new : ℕ) → 0 < has k → bit_at new k ≡ 1 → ((i : ℕ) → i ≢ k → bit_at new i ≡ bit_at set i) → IsSetBelow new (k + 1) has
  set_with new some same others y h = elim (cases_eq y k) [
    | inl e ↦ subst (λ (z : ℕ). in_set new z ≡ (ltb z (k + 1) && ltb 0 (has z))) (sym e) (ap (λ b. b == 1) same ∙ sym (there some))
    | inr e ↦ ap (λ b. b == 1) (others y e) ∙ below y h ∙ both-same (ltb y k) (ltb y (k + 1)) (ltb 0 (has y)) (next-same y k e)
  ]
    where
      there : 0 < has k → (ltb k (k + 1) && ltb 0 (has k)) ≡ true
      there l = grind (arith, nat_tests)

  pub set_without : (new : ℕ) → has k ≡ 0 → new ≡ set → k < 52 → IsSetBelow new (k + 1) has
  set_without new none same l y h = ap (λ m. in_set m y) same ∙ below y h ∙ next (cases_eq y k)
    where
      nothing : (m : ℕ) → m ≡ 0 → (b : Bool) → (b && ltb 0 m) ≡ false
      nothing m e b = grind (arith, nat_tests)

      next : (y ≡ k) ⊎ (y ≢ k) → (ltb y k && ltb 0 (has y)) ≡ (ltb y (k + 1) && ltb 0 (has y))
      next (inl e) = nothing (has y) (ap has e ∙ none) (ltb y k) ∙ sym (nothing (has y) (ap has e ∙ none) (ltb y (k + 1)))
      next (inr e) = both-same (ltb y k) (ltb y (k + 1)) (ltb 0 (has y)) (next-same y k e)

-- ---- masks that are written letter by letter
module _ (masks : List ℕ) (table : ℕ → ℕ → ℕ) (v set bits : ℕ) (size : length masks ≡ 52) (h : v < 52) (same : bits ≡ set) (has : IsMaskOf set (table v))
    (before : (u : ℕ) → u < v → IsMaskOf (get_or masks u 0) (table u)) where
  pub masks_written : (u : ℕ) → u < v + 1 → IsMaskOf (get_or (slice_set masks v bits) u 0) (table u)
  masks_written u l = elim (cases_eq u v) [
    | inl e ↦ subst (λ (w : ℕ). IsMaskOf (get_or (slice_set masks v bits) w 0) (table w)) (sym e)
        (subst (λ (m : ℕ). IsMaskOf m (table v)) (sym (get_or-set_same masks v bits 0 (omega (arith, size, h)) ∙ same)) has)
    | inr e ↦ subst (λ (m : ℕ). IsMaskOf m (table u)) (sym (get_or-set_other masks v u bits 0 e)) (before u (omega (arith, l, e)))
  ]

-- ---- masks of a table that changes
pair_cases : (a b p q : ℕ) → ((a ≡ p) × (b ≡ q)) ⊎ ((a ≢ p) ⊎ (b ≢ q))
pair_cases a b p q = elim (cases_eq a p) [
  | inl e ↦ elim (cases_eq b q) [
    | inl k ↦ inl (e, k)
    | inr k ↦ inr (inr k)
  ]
  | inr e ↦ inr (inl e)
]

pub swapped : {A : Type 0} {B : Type 0} → A ⊎ B → B ⊎ A
swapped (inl a) = inr a
swapped (inr b) = inl b

pub within_and : (z : ℕ) (b : Bool) → z < 52 → b ≡ (ltb z 52 && b)
within_and z b h = grind (arith, nat_tests)

pub past_and : (z : ℕ) (b c : Bool) → 52 ≤ z → (ltb z 52 && b) ≡ (ltb z 52 && c)
past_and z b c h = grind (arith, nat_tests)

-- Masks of one table are those of another, where the same numbers are more than 0.
pub masks_kept : (masks : List ℕ) (r s : ℕ → ℕ → ℕ) → ((u v : ℕ) → u < 52 → v < 52 → ltb 0 (r u v) ≡ ltb 0 (s u v)) → AreMasksOf masks r → AreMasksOf masks s
masks_kept masks r s same are v h z k = are v h z k ∙ elim (cases_lt z 52) [
  | inl l ↦ ap (λ b. ltb z 52 && b) (same v z h l)
  | inr l ↦ past_and z (ltb 0 (r v z)) (ltb 0 (s v z)) (omega (arith, l))
]

-- Two tables agree but between x and y.
abbrev pub AgreeBut : (ℕ → ℕ → ℕ) → (ℕ → ℕ → ℕ) → ℕ → ℕ → Type 0
AgreeBut r s x y = (u v : ℕ) → u < 52 → v < 52 → (u ≢ x) ⊎ (v ≢ y) → (u ≢ y) ⊎ (v ≢ x) → r u v ≡ s u v

pub noted : (old mid new : List ℕ) (r s : ℕ → ℕ → ℕ) (x y : ℕ) → x < 52 → y < 52 → AreMasksOf old r → AgreeBut r s x y
    → in_set (get_or mid x 0) y ≡ ltb 0 (s x y) → ((v z : ℕ) → v < 52 → z < 64 → (v ≢ x) ⊎ (z ≢ y) → in_set (get_or mid v 0) z ≡ in_set (get_or old v 0) z)
    → in_set (get_or new y 0) x ≡ ltb 0 (s y x) → ((v z : ℕ) → v < 52 → z < 64 → (v ≢ y) ⊎ (z ≢ x) → in_set (get_or new v 0) z ≡ in_set (get_or mid v 0) z)
    → AreMasksOf new s
noted old mid new r s x y hx hy has agree here others there rest v h z k = back (pair_cases v z y x)
  where
    at : (p q : ℕ) (masks : List ℕ) → q < 52 → in_set (get_or masks p 0) q ≡ ltb 0 (s p q) → (v ≡ p) × (z ≡ q) → in_set (get_or masks v 0) z ≡ (ltb z 52 && ltb 0 (s v z))
    at p q masks hq e same =
        subst (λ (u : ℕ). in_set (get_or masks u 0) z ≡ (ltb z 52 && ltb 0 (s u z))) (sym same.0)
        (subst (λ (w : ℕ). in_set (get_or masks p 0) w ≡ (ltb w 52 && ltb 0 (s p w))) (sym same.1) (e ∙ within_and q (ltb 0 (s p q)) hq))

    else_where : (v ≢ x) ⊎ (z ≢ y) → (v ≢ y) ⊎ (z ≢ x) → (ltb z 52 && ltb 0 (r v z)) ≡ (ltb z 52 && ltb 0 (s v z))
    else_where a b = elim (cases_lt z 52) [
      | inl l ↦ ap (λ m. ltb z 52 && ltb 0 m) (agree v z h l a b)
      | inr l ↦ past_and z (ltb 0 (r v z)) (ltb 0 (s v z)) (omega (arith, l))
    ]

    forth : ((v ≡ x) × (z ≡ y)) ⊎ ((v ≢ x) ⊎ (z ≢ y)) → (v ≢ y) ⊎ (z ≢ x) → in_set (get_or mid v 0) z ≡ (ltb z 52 && ltb 0 (s v z))
    forth (inl e) b = at x y mid hy here e
    forth (inr a) b = others v z h k a ∙ has v h z k ∙ else_where a b

    back : ((v ≡ y) × (z ≡ x)) ⊎ ((v ≢ y) ⊎ (z ≢ x)) → in_set (get_or new v 0) z ≡ (ltb z 52 && ltb 0 (s v z))
    back (inl e) = at y x new hx there e
    back (inr b) = rest v z h k b ∙ forth (pair_cases v z x y) b
