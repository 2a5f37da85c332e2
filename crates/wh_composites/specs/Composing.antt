-- When a list of moves can be composed, and why it can't.
use Rattle.std.specs.Prelude.{◌≡◌, ℕ, ◌<◌, ◌≤◌, List, length, take}
use Rattle.std.specs.List.{sum_by}
use Rattle.wh_words.specs.Moves.{Move}
use Rattle.wh_words.specs.Composites.{composite}
use Rattle.wh_composites.specs.Limits.{most_image_letters}
use Rattle.wh_composites.specs.declared.composing.ComposeError.{ComposeError}
use Rattle.wh_composites.specs.declared.composing.ComposeError.TheVariants.{TooLong, OutOfMemory}

-- How many letters a list of words has.
abbrev pub letter_count : List (List ℕ) → ℕ
letter_count ws = sum_by length ws

-- The composite of the first k moves of a list has at most as many letters as images may have.
abbrev pub ComposesUpTo : ℕ → List Move → ℕ → Type 0
ComposesUpTo n ms k = letter_count (composite n (take k ms)) ≤ most_image_letters

-- The images after move number place, counted from 1, are the first that have more letters, and they have count.
pub record IsFirstTooLong (n : ℕ) (ms : List Move) (place count : ℕ) : Type 0 where
  pub within : place ≤ length ms
  pub letters : count ≡ letter_count (composite n (take place ms))
  pub too_long : most_image_letters < count
  pub first : (k : ℕ) → k < place → ComposesUpTo n ms k

-- What an error tells of a list of moves: where its images are first too long. Want of memory tells nothing.
abbrev pub IsComposeFault : ℕ → List Move → ComposeError → Type 0
IsComposeFault n ms (TooLong place count) = IsFirstTooLong n ms place count
IsComposeFault n ms OutOfMemory = Unit {0}
