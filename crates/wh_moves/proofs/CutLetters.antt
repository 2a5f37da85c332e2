-- The image of a letter under a cut is reduced as it is written.
use Rattle.std.proofs.Common.{◌≡◌, ◌≢◌, ℕ, ◌/◌, Bool, true, false, cond, List, [], ◌∷◌, ◌++◌, sym, ap, ◌∙◌, Result, Ok, Err, IfOk}
use Rattle.std.proofs.lemmas.Bool.{ne_eqb}
use Rattle.wh_words.specs.Letters.{inverse_letter}
use Rattle.wh_words.specs.LetterSets.{in_set}
use Rattle.wh_words.specs.Words.{free_reduction, IsReduced}
use Rattle.wh_words.specs.Images.{image}
use Rattle.wh_words.specs.Moves.Kind.{cut}
use Rattle.wh_words.proofs.CutWords.{around}
use Rattle.wh_words.proofs.FreeReduction.{free_reduction-same, inverse-inverse, inverse_generator}

module _ (a set x : ℕ) (apart : x / 2 ≢ a / 2) where
  not_inverse : a ≢ inverse_letter x
  not_inverse e = apart (sym (inverse_generator x) ∙ ap (λ z. z / 2) (sym e))

  not_multiplier : x ≢ inverse_letter (inverse_letter a)
  not_multiplier e = apart (ap (λ z. z / 2) (e ∙ inverse-inverse a))

  around_reduced : (b c : Bool) → IsReduced (around b c a x)
  around_reduced true true = (not_multiplier, (not_inverse, (tt, tt)))
  around_reduced true false = (not_multiplier, (tt, tt))
  around_reduced false true = (not_inverse, (tt, tt))
  around_reduced false false = (tt, tt)

  image_is : (b c : Bool) → in_set set (inverse_letter x) ≡ b → in_set set x ≡ c → free_reduction (around b c a x) ≡ image (cut a set) x
  image_is b c e f =
      free_reduction-same (around b c a x) (around_reduced b c)
      ∙ ap (λ z. around z c a x) (sym e) ∙ ap (λ z. around (in_set set (inverse_letter x)) z a x) (sym f)
      ∙ ap (λ z. cond z (x ∷ []) (around (in_set set (inverse_letter x)) (in_set set x) a x)) (sym (ne_eqb (x / 2) (a / 2) apart))

gives_then : {E : Type 0} {u v : List ℕ} (r : Result (List ℕ) E) → u ≡ v → IfOk r (λ w. w ≡ u) → IfOk r (λ w. w ≡ v)
gives_then (Ok w) e h = h ∙ e
gives_then (Err x) e h = tt

-- What reducing gives is the image, where i is the inverse of the multiplier.
pub gives_image : {E : Type 0} (r : Result (List ℕ) E) (a set x i : ℕ) (b c : Bool) → x / 2 ≢ a / 2 → i ≡ inverse_letter a → in_set set (inverse_letter x) ≡ b → in_set set x ≡ c →
    IfOk r (λ w. w ≡ free_reduction (cond b (i ∷ []) [] ++ x ∷ cond c (a ∷ []) [])) → IfOk r (λ w. w ≡ image (cut a set) x)
gives_image r a set x i b c n e f g h =
    gives_then r (ap (λ z. free_reduction (cond b (z ∷ []) [] ++ x ∷ cond c (a ∷ []) [])) e ∙ image_is a set x n b c f g) h
