-- Words whose letters are exchanged: a swap or an inversion of a cyclic word keeps it cyclically reduced.
use Rattle.std.proofs.Common.{◌≡◌, ◌≢◌, ℕ, ◌+◌, ◌-◌, ◌/◌, ◌<◌, false, List, [], ◌∷◌, map, refl, sym, ap, ◌∙◌, inl, inr, arith}
use Rattle.std.proofs.lemmas.Bool.{cases_eq, true≢false}
use Rattle.std.proofs.lemmas.List.{map-append}
use Rattle.wh_words.specs.Letters.{inverse_letter}
use Rattle.wh_words.specs.CyclicWords.{cyclic_word, least_rotation, ends_cancel, IsCyclicallyReduced}
use Rattle.wh_words.specs.Words.{IsReduced}
use Rattle.wh_words.specs.Images.{swap_letter, invert_letter}
use Rattle.wh_words.specs.Action.{substitute}
use Rattle.wh_words.specs.Moves.Kind.{swap, invert}
use Rattle.wh_words.proofs.FreeReduction.{inverse-inverse, inverse_generator}
use Rattle.wh_words.proofs.LetterMaps.{swap_up, swap_down, swap_stay, invert_here, invert_there}
use Rattle.wh_words.proofs.Turning.{Ends, ends, same_ends, other_ends}
use Rattle.wh_words.proofs.Turning.Ends.{none, one, two}
use Rattle.wh_words.proofs.CutImages.{own_reduced, own_cyclic_reduction}

module _ (f : ℕ → ℕ) (turns : (x : ℕ) → f (inverse_letter x) ≡ inverse_letter (f x)) (apart : (x y : ℕ) → f x ≡ f y → x ≡ y) where
  map_reduced : (w : List ℕ) → IsReduced w → IsReduced (map f w)
  map_reduced [] r = r
  map_reduced (x ∷ []) r = (tt, tt)
  map_reduced (x ∷ y ∷ w) r = (λ e. r.0 (apart y (inverse_letter x) (e ∙ sym (turns x))), map_reduced (y ∷ w) r.1)

  map_ends : (w : List ℕ) → Ends w → ends_cancel w ≡ false → ends_cancel (map f w) ≡ false
  map_ends w none h = refl
  map_ends w (one x) h = refl
  map_ends w (two x m y) h =
      ap (λ v. ends_cancel (f x ∷ v)) (map-append f m (y ∷ []))
      ∙ other_ends (f x) (map f m) (f y) (λ e. true≢false (sym (same_ends x m y (apart y (inverse_letter x) (e ∙ sym (turns x)))) ∙ h))

  pub map_word : (w : List ℕ) → cyclic_word w ≡ w → cyclic_word (map f w) ≡ least_rotation (map f w)
  map_word w e =
      let r : IsCyclicallyReduced w = own_reduced w e in
      ap least_rotation (own_cyclic_reduction (map f w) (map_reduced w r.0, map_ends w (ends w) r.1))

-- where a letter goes
data Goes (k x : ℕ) : Type 0 where
  up : x / 2 + 1 ≡ k → swap_letter k x ≡ x + 2 → Goes k x
  down : x / 2 ≡ k → swap_letter k x ≡ x - 2 → Goes k x
  stay : x / 2 + 1 ≢ k → x / 2 ≢ k → swap_letter k x ≡ x → Goes k x

goes : (k x : ℕ) → Goes k x
goes k x = elim (cases_eq (x / 2 + 1) k) [
  | inl e ↦ up e (swap_up k x e)
  | inr n ↦ elim (cases_eq (x / 2) k) [
    | inl e ↦ down e (swap_down k x e)
    | inr m ↦ stay n m (swap_stay k x n m)
  ]
]

up_two : (x : ℕ) → inverse_letter (x + 2) ≡ inverse_letter x + 2
unfolding inverse_letter
up_two x = omega arith

down_two : (x : ℕ) → 1 < x → inverse_letter (x - 2) ≡ inverse_letter x - 2
unfolding inverse_letter
down_two x h = omega arith

pub swap_turns : (k : ℕ) → 0 < k → (x : ℕ) → swap_letter k (inverse_letter x) ≡ inverse_letter (swap_letter k x)
swap_turns k h x = go (goes k x)
  where
    go : Goes k x → swap_letter k (inverse_letter x) ≡ inverse_letter (swap_letter k x)
    go (up e s) = swap_up k (inverse_letter x) (omega (arith, inverse_generator x, e)) ∙ sym (up_two x) ∙ ap inverse_letter (sym s)
    go (down e s) = swap_down k (inverse_letter x) (inverse_generator x ∙ e) ∙ sym (down_two x (omega (arith, e, h))) ∙ ap inverse_letter (sym s)
    go (stay n m s) = swap_stay k (inverse_letter x) (λ e. n (omega (arith, inverse_generator x, e))) (λ e. m (sym (inverse_generator x) ∙ e)) ∙ ap inverse_letter (sym s)

swap_apart : (k : ℕ) → 0 < k → (x y : ℕ) → swap_letter k x ≡ swap_letter k y → x ≡ y
swap_apart k h x y q = go (goes k x) (goes k y)
  where
    go : Goes k x → Goes k y → x ≡ y
    go (up e s) (up g t) = omega (arith, q, s, t)
    go (up e s) (down g t) = absurd (omega (arith, q, s, t, e, g, h))
    go (up e s) (stay n m t) = absurd (m (omega (arith, q, s, t, e)))
    go (down e s) (up g t) = absurd (omega (arith, q, s, t, e, g, h))
    go (down e s) (down g t) = omega (arith, q, s, t, e, g, h)
    go (down e s) (stay n m t) = absurd (n (omega (arith, q, s, t, e, h)))
    go (stay n m s) (up g t) = absurd (m (omega (arith, q, s, t, g)))
    go (stay n m s) (down g t) = absurd (n (omega (arith, q, s, t, g, h)))
    go (stay n m s) (stay i j t) = sym s ∙ q ∙ t

pub invert_turns : (k x : ℕ) → invert_letter k (inverse_letter x) ≡ inverse_letter (invert_letter k x)
invert_turns k x = elim (cases_eq (x / 2 + 1) k) [
  | inl e ↦ invert_here k (inverse_letter x) (omega (arith, inverse_generator x, e)) ∙ ap inverse_letter (sym (invert_here k x e))
  | inr n ↦ invert_there k (inverse_letter x) (λ e. n (omega (arith, inverse_generator x, e))) ∙ ap inverse_letter (sym (invert_there k x n))
]

invert_apart : (k x y : ℕ) → invert_letter k x ≡ invert_letter k y → x ≡ y
invert_apart k x y q = elim (cases_eq (x / 2 + 1) k) [
  | inl e ↦ elim (cases_eq (y / 2 + 1) k) [
    | inl g ↦ sym (inverse-inverse x) ∙ ap inverse_letter (sym (invert_here k x e) ∙ q ∙ invert_here k y g) ∙ inverse-inverse y
    | inr m ↦ absurd (m (omega (arith, e, inverse_generator x, ap (λ z. z / 2) (sym (invert_here k x e) ∙ q ∙ invert_there k y m))))
  ]
  | inr n ↦ elim (cases_eq (y / 2 + 1) k) [
    | inl g ↦ absurd (n (omega (arith, g, inverse_generator y, ap (λ z. z / 2) (sym (invert_there k x n) ∙ q ∙ invert_here k y g))))
    | inr m ↦ sym (invert_there k x n) ∙ q ∙ invert_there k y m
  ]
]

swap_substitute : (k : ℕ) (w : List ℕ) → substitute (swap k) w ≡ map (swap_letter k) w
swap_substitute k [] = refl
swap_substitute k (x ∷ w) = ap (λ v. swap_letter k x ∷ v) (swap_substitute k w)

invert_substitute : (k : ℕ) (w : List ℕ) → substitute (invert k) w ≡ map (invert_letter k) w
invert_substitute k [] = refl
invert_substitute k (x ∷ w) = ap (λ v. invert_letter k x ∷ v) (invert_substitute k w)

pub swap_image : (k : ℕ) (w : List ℕ) → 0 < k → cyclic_word w ≡ w → cyclic_word (substitute (swap k) w) ≡ least_rotation (map (swap_letter k) w)
swap_image k w h e = ap cyclic_word (swap_substitute k w) ∙ map_word (swap_letter k) (swap_turns k h) (swap_apart k h) w e

pub invert_image : (k : ℕ) (w : List ℕ) → cyclic_word w ≡ w → cyclic_word (substitute (invert k) w) ≡ least_rotation (map (invert_letter k) w)
invert_image k w e = ap cyclic_word (invert_substitute k w) ∙ map_word (invert_letter k) (invert_turns k) (invert_apart k) w e
