-- What a move takes letters to, after Lyndon and Schupp, I.4.
use Rattle.std.specs.Prelude.{◌≡◌, ℕ, suc, zero, ◌+◌, ◌-◌, ◌*◌, ◌/◌, ◌==◌, ◌<◌, cond, List, [], ◌∷◌, ◌++◌, length, map, reverse, slice_index_or}
use Rattle.wh_words.specs.Letters.{inverse_letter}
use Rattle.wh_words.specs.LetterSets.{in_set}
use Rattle.wh_words.specs.Moves.{Move, Kind}
use Rattle.wh_words.specs.Moves.Kind.{swap, invert, cut}

-- The letter that the swap of generators k and k + 1 takes a letter to.
abbrev pub swap_letter : ℕ → ℕ → ℕ
swap_letter k x = cond (x / 2 + 1 == k) (x + 2) (cond (x / 2 == k) (x - 2) x)

-- The letter that the inversion of generator k takes a letter to.
abbrev pub invert_letter : ℕ → ℕ → ℕ
invert_letter k x = cond (x / 2 + 1 == k) (inverse_letter x) x

-- The word that a move takes a letter to. A cut (A, a) leaves a and its inverse a'; before another letter x it puts a' where the inverse of x is in A, and behind it a where x is in A.
abbrev pub image : Kind → ℕ → List ℕ
image (swap k) x = swap_letter k x ∷ []
image (invert k) x = invert_letter k x ∷ []
image (cut a set) x =
    cond (x / 2 == a / 2) (x ∷ [])
    (cond (in_set set (inverse_letter x)) (inverse_letter a ∷ []) [] ++ x ∷ cond (in_set set x) (a ∷ []) [])

-- The images of the first g generators, in order.
abbrev pub images_below : ℕ → Kind → List (List ℕ)
images_below zero k = []
images_below (suc g) k = images_below g k ++ image k (2 * g) ∷ []

-- The images of all generators, in order.
abbrev pub images : Move → List (List ℕ)
images m = images_below m.rank m.kind

-- These are the images of the identity: the image of each generator is its letter alone.
abbrev pub AreIdentity : List (List ℕ) → Type 0
AreIdentity ws = (g : ℕ) → g < length ws → slice_index_or ws g [] ≡ 2 * g ∷ []

-- The inverse of a word: the inverses of its letters in reverse order.
abbrev pub inverse_word : List ℕ → List ℕ
inverse_word w = reverse (map inverse_letter w)
