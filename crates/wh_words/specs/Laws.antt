-- What the definitions mean, as statements that contracts name.
use Rattle.std.specs.Prelude.{◌≡◌, ℕ, List, ◌++◌, ◌↔◌}
use Rattle.wh_words.specs.Letters.{inverse_letter}
use Rattle.wh_words.specs.Words.{free_reduction, Remains}
use Rattle.wh_words.specs.CyclicWords.{cyclic_reduction, cyclic_word, IsCyclicReduction, IsLeastRotation}
use Rattle.wh_words.specs.Tuples.{TupleData}
use Rattle.wh_words.specs.Moves.{Move, Kind, IsKind}
use Rattle.wh_words.specs.Images.{image, inverse_word}
use Rattle.wh_words.specs.Traces.{IsTrace}

-- Exactly one word remains of a word, and it is the free reduction.
abbrev pub FreeReductionIsWhatRemains : Type 0
FreeReductionIsWhatRemains = (w v : List ℕ) → Remains w v ↔ (v ≡ free_reduction w)

-- Exactly one word is left when inverse ends are deleted too, and it is the cyclic reduction.
abbrev pub CyclicReductionIsWhatRemains : Type 0
CyclicReductionIsWhatRemains = (w v : List ℕ) → IsCyclicReduction w v ↔ (v ≡ cyclic_reduction w)

-- Exactly one word is the first of all rotations of the cyclic reduction, and it is the cyclic word.
abbrev pub CyclicWordIsLeastRotation : Type 0
CyclicWordIsLeastRotation = (w r : List ℕ) → IsLeastRotation (cyclic_reduction w) r ↔ (r ≡ cyclic_word w)

-- Turning a word, whether reduced or not, keeps its cyclic word.
abbrev pub TurningKeepsCyclicWord : Type 0
TurningKeepsCyclicWord = (u v : List ℕ) → cyclic_word (u ++ v) ≡ cyclic_word (v ++ u)

-- Conjugation keeps the cyclic word.
abbrev pub ConjugatesHaveOneCyclicWord : Type 0
ConjugatesHaveOneCyclicWord = (w g : List ℕ) → cyclic_word (inverse_word g ++ w ++ g) ≡ cyclic_word w

-- The image of an inverse is the inverse of the image, so the images of the generators tell those of all letters.
abbrev pub ImageOfInverse : Type 0
ImageOfInverse = (n : ℕ) (k : Kind) (x : ℕ) → IsKind n k → image k (inverse_letter x) ≡ inverse_word (image k x)

-- A tuple has one trace at most.
abbrev pub TraceIsUnique : Type 0
TraceIsUnique = (t u v : TupleData) (ms ns : List Move) → IsTrace t ms u → IsTrace t ns v → (ms ≡ ns) × (u ≡ v)
