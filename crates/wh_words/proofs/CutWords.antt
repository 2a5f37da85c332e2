-- What a cut writes for one letter.
use Rattle.std.proofs.Common.{◌≡◌, ◌≢◌, ℕ, ◌/◌, Bool, cond, List, [], ◌∷◌, ◌++◌, ap}
use Rattle.std.proofs.lemmas.Bool.{eq-eqb, ne_eqb}
use Rattle.wh_words.specs.Letters.{inverse_letter}
use Rattle.wh_words.specs.LetterSets.{in_set}
use Rattle.wh_words.specs.Images.{image}
use Rattle.wh_words.specs.Moves.Kind.{cut}

-- What a cut writes round a letter, by whether it writes before it and behind it.
abbrev pub around : Bool → Bool → ℕ → ℕ → List ℕ
around before behind a x = cond before (inverse_letter a ∷ []) [] ++ x ∷ cond behind (a ∷ []) []

-- The letters of the multiplier's generator stay.
pub own_image : (a set x : ℕ) → x / 2 ≡ a / 2 → image (cut a set) x ≡ x ∷ []
own_image a set x e = ap (λ (b : Bool). cond b (x ∷ []) (around (in_set set (inverse_letter x)) (in_set set x) a x)) (eq-eqb (x / 2) (a / 2) e)

pub other_image : (a set x : ℕ) → x / 2 ≢ a / 2 → image (cut a set) x ≡ around (in_set set (inverse_letter x)) (in_set set x) a x
other_image a set x n = ap (λ (b : Bool). cond b (x ∷ []) (around (in_set set (inverse_letter x)) (in_set set x) a x)) (ne_eqb (x / 2) (a / 2) n)
