-- A cut (A, a) in one pass over a word: the letters a and a' are dropped, and between two neighbouring letters x and y stands a where x alone is in A and the inverse of y isn't, or a' where it is the other way round.
use Rattle.std.specs.Prelude.{ℕ, Bool, true, false, not, ◌&&◌, ◌==◌, ◌-◌, cond, List, [], ◌∷◌, ◌++◌, length, get_or}
use Rattle.wh_words.specs.Letters.{inverse_letter}

module _ (a : ℕ) (has : ℕ → Bool) where
  -- Whether a letter is another than the multiplier and its inverse.
  abbrev pub is_other : ℕ → Bool
  is_other x = not (x == a) && not (x == inverse_letter a)

  -- What is kept of a letter.
  abbrev pub kept : ℕ → List ℕ
  kept x = cond (is_other x) (x ∷ []) []

  -- What stands between two letters, by whether the first is in the set and the inverse of the second is.
  abbrev pub junction_of : Bool → Bool → List ℕ
  junction_of true true = []
  junction_of true false = a ∷ []
  junction_of false true = inverse_letter a ∷ []
  junction_of false false = []

  abbrev pub junction : ℕ → ℕ → List ℕ
  junction x y = junction_of (has x) (has (inverse_letter y))

  -- The pass over a word that follows the letter p.
  abbrev pub pass : ℕ → List ℕ → List ℕ
  pass p [] = []
  pass p (x ∷ w) = junction p x ++ (kept x ++ pass x w)

  -- The last letter of a word that follows the letter p.
  abbrev pub last_or : ℕ → List ℕ → ℕ
  last_or p [] = p
  last_or p (x ∷ w) = last_or x w

  -- The pass round a cyclic word, whose last letter stands before its first.
  abbrev pub round_pass : List ℕ → List ℕ
  round_pass w = pass (get_or w (length w - 1) 0) w
