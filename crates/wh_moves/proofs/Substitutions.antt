-- A substitution that takes inverse letters to inverse words acts on conjugacy classes: the cyclic word of the image depends on the cyclic word alone.
use Rattle.std.proofs.Common.{◌≡◌, ℕ, List, [], ◌∷◌, ◌++◌, drop, take, refl, sym, ap, ◌∙◌, append_assoc, append-nil}
use Rattle.std.proofs.lemmas.List.{take-append-drop}
use Rattle.std.proofs.lemmas.List.Concat.{flat_map-append}
use Rattle.std.specs.List.{flat_map}
use Rattle.wh_words.specs.Letters.{inverse_letter}
use Rattle.wh_words.specs.Words.{free_reduction, DeletesTo}
use Rattle.wh_words.specs.Words.DeletesTo.{none, pair}
use Rattle.wh_words.specs.CyclicWords.{cyclic_reduction, cyclic_word, rotate, IsCyclicReduction, IsLeastRotation, StripsTo}
use Rattle.wh_words.specs.CyclicWords.StripsTo.{none as bare, ends}
use Rattle.wh_words.proofs.FreeReduction.{inverse-inverse, free_reduction-append_left, free_reduction-append_right}
use Rattle.wh_words.proofs.Rotations.{cyclic_word-turn, least_rotation-is}
use Rattle.wh_words.proofs.LawProofs.{cyclic_reduction_remains}
use Rattle.wh_words.proofs.OnePass.{same_class}

-- Words with one free reduction have one cyclic word.
-- What reduces to nothing can be left out.
between : (u v w : List ℕ) → free_reduction v ≡ [] → free_reduction (u ++ (v ++ w)) ≡ free_reduction (u ++ w)
between u v w e =
    sym (free_reduction-append_right u (v ++ w))
    ∙ ap (λ t. free_reduction (u ++ t)) (sym (free_reduction-append_left v w) ∙ ap (λ t. free_reduction (t ++ w)) e)
    ∙ free_reduction-append_right u w

at_end : (u v : List ℕ) → free_reduction v ≡ [] → free_reduction (u ++ v) ≡ free_reduction u
at_end u v e = sym (free_reduction-append_right u v) ∙ ap (λ t. free_reduction (u ++ t)) e ∙ ap free_reduction (append-nil u)

module _ (f : ℕ → List ℕ) (cancels : (x : ℕ) → free_reduction (f x ++ f (inverse_letter x)) ≡ []) where
  pub deleted : {w v : List ℕ} → DeletesTo w v → free_reduction (flat_map f w) ≡ free_reduction (flat_map f v)
  deleted none = refl
  deleted (pair front x back d) =
      ap free_reduction (flat_map-append f front (x ∷ inverse_letter x ∷ back))
      ∙ ap (λ t. free_reduction (flat_map f front ++ t)) (sym (append_assoc (f x) (f (inverse_letter x)) (flat_map f back)))
      ∙ between (flat_map f front) (f x ++ f (inverse_letter x)) (flat_map f back) (cancels x)
      ∙ ap free_reduction (sym (flat_map-append f front back))
      ∙ deleted d

  cancels_back : (x : ℕ) → free_reduction (f (inverse_letter x) ++ f x) ≡ []
  cancels_back x = ap (λ z. free_reduction (f (inverse_letter x) ++ f z)) (sym (inverse-inverse x)) ∙ cancels (inverse_letter x)

  stripped : {w v : List ℕ} → StripsTo w v → cyclic_word (flat_map f w) ≡ cyclic_word (flat_map f v)
  stripped bare = refl
  stripped (ends x middle s) =
      cyclic_word-turn (f x) (flat_map f (middle ++ inverse_letter x ∷ []))
      ∙ ap (λ t. cyclic_word (t ++ f x)) (flat_map-append f middle (inverse_letter x ∷ []))
      ∙ ap (λ t. cyclic_word ((flat_map f middle ++ t) ++ f x)) (append-nil (f (inverse_letter x)))
      ∙ ap cyclic_word (append_assoc (flat_map f middle) (f (inverse_letter x)) (f x))
      ∙ same_class (flat_map f middle ++ (f (inverse_letter x) ++ f x)) (flat_map f middle) (at_end (flat_map f middle) (f (inverse_letter x) ++ f x) (cancels_back x))
      ∙ stripped s

  turned : (k : ℕ) (w : List ℕ) → cyclic_word (flat_map f (rotate k w)) ≡ cyclic_word (flat_map f w)
  turned k w =
      ap cyclic_word (flat_map-append f (drop k w) (take k w))
      ∙ cyclic_word-turn (flat_map f (drop k w)) (flat_map f (take k w))
      ∙ ap cyclic_word (sym (flat_map-append f (take k w) (drop k w)))
      ∙ ap (λ v. cyclic_word (flat_map f v)) (take-append-drop k w)

  pub of_class : (w : List ℕ) → cyclic_word (flat_map f (cyclic_word w)) ≡ cyclic_word (flat_map f w)
  of_class w =
      let least : IsLeastRotation (cyclic_reduction w) (cyclic_word w) = least_rotation-is (cyclic_reduction w) in
      let core : IsCyclicReduction w (cyclic_reduction w) = (cyclic_reduction_remains w (cyclic_reduction w)).1 refl in
      ap (λ v. cyclic_word (flat_map f v)) least.there.2
      ∙ turned least.there.0 (cyclic_reduction w)
      ∙ sym (stripped core.stripped)
      ∙ same_class (flat_map f core.reduced) (flat_map f w) (sym (deleted core.remains.deleted))
