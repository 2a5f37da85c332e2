-- The neighbours of each letter of a network.
use Rattle.std.proofs.Common.{◌≡◌, ◌≢◌, ℕ, ◌+◌, ◌<◌, ◌≤◌, Bool, true, refl, sym, ap, ◌∙◌, subst, inl, inr, ◌⊎◌, arith, List, get_or, replicate}
use Rattle.std.specs.Prelude.{ltb, ◌&&◌}
use Rattle.std.proofs.lemmas.Bool.{cases_eq, cases_lt}
use Rattle.std.proofs.lemmas.Bool.Decides.{nat_tests}
use Rattle.std.proofs.lemmas.List.{get_or-replicate}
use Rattle.wh_words.specs.LetterSets.{in_set}
use Rattle.wh_flow.specs.Tables.{cell, zero_table}
use Rattle.wh_flow.specs.Masks.{AreMasksOf}
use Rattle.wh_flow.proofs.NetEdges.{joined, joined-there, joined-back, joined-other}
use Rattle.wh_flow.proofs.Masks.{AgreeBut, set_none, noted, masks_kept}
use Rattle.wh_flow.proofs.Cells.{cell-zero}

pub no_neighbours : AreMasksOf (replicate 52 0) (cell zero_table)
no_neighbours v h y k = ap (λ m. in_set m y) (get_or-replicate 52 v 0 0 h) ∙ set_none (cell zero_table v) 0 refl y k ∙ none (cases_lt y 52)
  where
    empty : (a b : Bool) → (a && ltb 0 0) ≡ (b && ltb 0 0)
    empty a b = grind (arith, nat_tests)

    past : (c : Bool) → 52 ≤ y → (ltb y 0 && c) ≡ (ltb y 52 && c)
    past c l = grind (arith, nat_tests)

    none : (y < 52) ⊎ (52 ≤ y) → (ltb y 0 && ltb 0 (cell zero_table v y)) ≡ (ltb y 52 && ltb 0 (cell zero_table v y))
    none (inl l) = subst (λ (m : ℕ). (ltb y 0 && ltb 0 m) ≡ (ltb y 52 && ltb 0 m)) (sym (cell-zero v y h l)) (empty (ltb y 0) (ltb y 52))
    none (inr l) = past (ltb 0 (cell zero_table v y)) l

-- The masks after an edge more between x and y, of letters that no edge joined.
module _ (l : List ℕ) (x y : ℕ) (ne : x ≢ y) where
  some : (n : ℕ) → 0 < n → ltb 0 n ≡ true
  some n h = grind (arith, nat_tests)

  apart : (a b p q : ℕ) → (a ≢ p) ⊎ (b ≢ q) → (p ≡ a) × (q ≡ b) → ⊥
  apart a b p q (inl e) k = e (sym k.0)
  apart a b p q (inr e) k = e (sym k.1)

  kept : AgreeBut (cell l) (λ u v. cell l u v + joined x y u v) x y
  kept u v h i a b = omega (arith, joined-other x y ne u v (apart u v x y a) (λ k. apart u v y x b (k.1, k.0)))

  pub neighbours_joined : (old mid new : List ℕ) → x < 52 → y < 52 → AreMasksOf old (cell l)
      → in_set (get_or mid x 0) y ≡ true → ((v z : ℕ) → v < 52 → z < 64 → (v ≢ x) ⊎ (z ≢ y) → in_set (get_or mid v 0) z ≡ in_set (get_or old v 0) z)
      → in_set (get_or new y 0) x ≡ true → ((v z : ℕ) → v < 52 → z < 64 → (v ≢ y) ⊎ (z ≢ x) → in_set (get_or new v 0) z ≡ in_set (get_or mid v 0) z)
      → AreMasksOf new (λ u v. cell l u v + joined x y u v)
  neighbours_joined old mid new hx hy has here others there rest =
      noted old mid new (cell l) (λ u v. cell l u v + joined x y u v) x y hx hy has kept
      (here ∙ sym (some (cell l x y + joined x y x y) (omega (arith, joined-there x y ne)))) others
      (there ∙ sym (some (cell l y x + joined x y y x) (omega (arith, joined-back x y ne)))) rest

  -- The same masks, where an edge joined them.
  pub neighbours_kept : (masks : List ℕ) → cell l x y ≢ 0 → cell l y x ≢ 0 → AreMasksOf masks (cell l) → AreMasksOf masks (λ u v. cell l u v + joined x y u v)
  neighbours_kept masks there back = masks_kept masks (cell l) (λ u v. cell l u v + joined x y u v) same
    where
      both : (a b : ℕ) → 0 < a → 0 < b → ltb 0 a ≡ ltb 0 b
      both a b h i = grind (arith, nat_tests)

      same : (u v : ℕ) → u < 52 → v < 52 → ltb 0 (cell l u v) ≡ ltb 0 (cell l u v + joined x y u v)
      same u v h i = elim (cases_eq (cell l u v) 0) [
        | inl e ↦ ap (λ k. ltb 0 k) (omega (
          arith,
          joined-other x y ne u v
              (λ k. there (ap (λ p. cell l p y) k.0 ∙ ap (λ q. cell l u q) k.1 ∙ e))
              (λ k. back (ap (λ p. cell l p x) k.1 ∙ ap (λ q. cell l u q) k.0 ∙ e)),
        ))
        | inr e ↦ both (cell l u v) (cell l u v + joined x y u v) (omega (arith, e)) (omega (arith, e))
      ]
