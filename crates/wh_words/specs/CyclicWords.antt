-- Cyclic words, that is conjugacy classes of the free group, after Lyndon and Schupp, I.1 and I.4. A cyclic word is written as the first of its rotations.
use Rattle.std.specs.Prelude.{◌≡◌, ℕ, zero, suc, ◌-◌, ◌≤◌, ◌==◌, ltb, ◌&&◌, Bool, false, cond, List, [], ◌∷◌, ◌++◌, length, get_or, take, drop, slice_range}
use Rattle.std.specs.Ordering.{is_lt, is_gt}
use Rattle.wh_words.specs.Letters.{inverse_letter}
use Rattle.wh_words.specs.Words.{free_reduction, IsReduced, Remains, word_cmp}

-- ---- cyclic reduction
-- Whether the last letter of a word is the inverse of its first, and another letter than it.
abbrev pub ends_cancel : List ℕ → Bool
ends_cancel w = ltb 1 (length w) && (get_or w (length w - 1) 0 == inverse_letter (get_or w 0 0))

-- A word is cyclically reduced where it is reduced and its ends don't cancel.
abbrev pub IsCyclicallyReduced : List ℕ → Type 0
IsCyclicallyReduced w = IsReduced w × (ends_cancel w ≡ false)

-- v is left of w when some inverse ends are deleted, a pair at a time.
pub data StripsTo : List ℕ → List ℕ → Type 0 where
  none : {w : List ℕ} → StripsTo w w
  ends : (x : ℕ) (middle : List ℕ) {v : List ℕ} → StripsTo middle v → StripsTo (x ∷ (middle ++ inverse_letter x ∷ [])) v

-- v is what remains of w when it is freely reduced, and then inverse ends are deleted until none stand.
pub record IsCyclicReduction (w v : List ℕ) : Type 0 where
  pub reduced : List ℕ
  pub remains : Remains w reduced
  pub stripped : StripsTo reduced v
  pub none_cancel : ends_cancel v ≡ false

-- A word without its first and its last letter.
abbrev pub inner : List ℕ → List ℕ
inner w = slice_range w 1 (length w - 1)

-- A word after at most so many pairs of inverse ends are deleted.
abbrev pub strip_times : ℕ → List ℕ → List ℕ
strip_times zero w = w
strip_times (suc n) w = cond (ends_cancel w) (strip_times n (inner w)) w

-- A word after inverse ends are deleted until none stand: a word has fewer pairs of ends than letters.
unfoldable pub cyclic_core : List ℕ → List ℕ
cyclic_core w = strip_times (length w) w

-- The cyclic reduction of a word.
abbrev pub cyclic_reduction : List ℕ → List ℕ
cyclic_reduction w = cyclic_core (free_reduction w)

-- ---- rotations
-- The rotation of a word that begins at its place k.
abbrev pub rotate : ℕ → List ℕ → List ℕ
rotate k w = drop k w ++ take k w

-- r is a rotation of w, and no rotation of w comes before it in the order of words.
pub record IsLeastRotation (w r : List ℕ) : Type 0 where
  pub there : (k : ℕ) × (k ≤ length w) × (r ≡ rotate k w)
  pub least : (k : ℕ) → k ≤ length w → is_gt (word_cmp r (rotate k w)) ≡ false

-- The first of two words.
abbrev pub lesser : List ℕ → List ℕ → List ℕ
lesser v w = cond (is_lt (word_cmp v w)) v w

-- The first of a word and its rotations that begin below k.
unfoldable pub least_below : ℕ → List ℕ → List ℕ
least_below zero w = w
least_below (suc k) w = lesser (rotate k w) (least_below k w)

-- The first of all rotations of a word.
abbrev pub least_rotation : List ℕ → List ℕ
least_rotation w = least_below (length w) w

-- The cyclic word of a word: the first of all rotations of its cyclic reduction.
abbrev pub cyclic_word : List ℕ → List ℕ
cyclic_word w = least_rotation (cyclic_reduction w)
