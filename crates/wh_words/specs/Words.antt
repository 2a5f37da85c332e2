-- Words and free reduction, after Lyndon and Schupp, I.1. A word is the list of its letters.
use Rattle.std.specs.Prelude.{◌≢◌, ℕ, ◌*◌, ◌<◌, ◌==◌, cond, List, [], ◌∷◌, ◌++◌}
use Rattle.std.specs.List.{All}
use Rattle.std.specs.Ordering.{nat_cmp}
use Rattle.std.specs.Cmp.Lexicographic.{slice_cmp}
use Rattle.std.specs.declared.cmp.Ordering.{Ordering}
use Rattle.wh_words.specs.Letters.{inverse_letter}

-- Every letter of the word is one of the 2 n letters of rank n.
abbrev pub IsOfRank : ℕ → List ℕ → Type 0
IsOfRank n w = All (λ x. x < 2 * n) w

-- The word doesn't begin with z.
abbrev pub StartsOtherThan : ℕ → List ℕ → Type 0
StartsOtherThan z [] = Unit {0}
StartsOtherThan z (y ∷ w) = y ≢ z

-- A word is reduced where no letter stands before its inverse.
abbrev pub IsReduced : List ℕ → Type 0
IsReduced [] = Unit {0}
IsReduced (x ∷ w) = StartsOtherThan (inverse_letter x) w × IsReduced w

-- v is left of w when some neighbouring inverse pairs are deleted, one at a time.
pub data DeletesTo : List ℕ → List ℕ → Type 0 where
  none : {w : List ℕ} → DeletesTo w w
  pair : (front : List ℕ) (x : ℕ) (back : List ℕ) {v : List ℕ} → DeletesTo (front ++ back) v → DeletesTo (front ++ x ∷ inverse_letter x ∷ back) v

-- v is what remains of w when neighbouring inverse pairs are deleted one at a time until none stands.
pub record Remains (w v : List ℕ) : Type 0 where
  pub deleted : DeletesTo w v
  pub none_stands : IsReduced v

-- A letter before a reduced word: it cancels with a first letter that is its inverse.
abbrev pub put_before : ℕ → List ℕ → List ℕ
put_before x [] = x ∷ []
put_before x (y ∷ w) = cond (y == inverse_letter x) w (x ∷ y ∷ w)

-- The free reduction of a word: the one word that remains of it.
abbrev pub free_reduction : List ℕ → List ℕ
free_reduction [] = []
free_reduction (x ∷ w) = put_before x (free_reduction w)

-- The order of words: letter by letter in the order of their indices; a proper prefix is smaller.
abbrev pub word_cmp : List ℕ → List ℕ → Ordering
word_cmp = slice_cmp nat_cmp
