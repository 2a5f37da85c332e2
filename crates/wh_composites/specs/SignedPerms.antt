-- Permutations of the letters of a rank that commute with inverting: swaps and inversions in full, after Lyndon and Schupp, I.4.
use Rattle.std.specs.Prelude.{◌≡◌, ℕ, zero, suc, ◌+◌, ◌-◌, ◌*◌, ◌/◌, ◌%◌, ◌<◌, ◌≤◌, ◌==◌, ◌↔◌, false, cond, List, [], ◌∷◌, ◌++◌, length, map, get_or}
use Rattle.std.specs.List.{All, Contains}
use Rattle.std.specs.Ordering.{nat_cmp, is_gt}
use Rattle.std.specs.Cmp.Lexicographic.{slice_cmp}
use Rattle.wh_words.specs.Limits.{most_rank}
use Rattle.wh_words.specs.Letters.{inverse_letter}
use Rattle.wh_words.specs.Words.{IsOfRank}
use Rattle.wh_words.specs.Moves.{Kind, Move, IsKind}
use Rattle.wh_words.specs.Moves.Kind.{swap, invert, cut}
use Rattle.wh_words.specs.Images.{swap_letter, invert_letter}
use Rattle.wh_words.specs.Composites.{substitute_all}

-- Its rank, and the images of the generators, in order.
pub record SignedPerm : Type 0 where
  pub rank : ℕ
  pub images : List ℕ

-- The images are of the rank, and no two of them are of one generator.
pub record IsSignedPerm (p : SignedPerm) : Type 0 where
  pub low : p.rank ≤ most_rank
  pub count : length p.images ≡ p.rank
  pub of_rank : IsOfRank p.rank p.images
  pub apart : (i j : ℕ) → i < p.rank → j < p.rank → get_or p.images i 0 / 2 ≡ get_or p.images j 0 / 2 → i ≡ j

-- The image of a letter: an inverse goes to the inverse of the image of its generator.
abbrev pub letter_image : List ℕ → ℕ → ℕ
letter_image images x = cond (x % 2 == 0) (get_or images (x / 2) 0) (inverse_letter (get_or images (x / 2) 0))

-- The map of letters that takes a to b and b to the inverse of a, and leaves the letters of other generators.
unfoldable pub carry : ℕ → ℕ → ℕ → ℕ
carry a b x = cond (x == a) b (cond (x == inverse_letter a) (inverse_letter b) (cond (x == b) (inverse_letter a) (cond (x == inverse_letter b) a x)))

-- ---- swaps and inversions
-- The kind is a swap or an inversion of rank n.
abbrev pub IsTurn : ℕ → Kind → Type 0
IsTurn n (swap k) = (0 < k) × (k < n)
IsTurn n (invert k) = (0 < k) × (k ≤ n)
IsTurn n (cut a set) = ⊥

-- The letter that a swap or an inversion takes a letter to.
abbrev pub letter_map : Kind → ℕ → ℕ
letter_map (swap k) x = swap_letter k x
letter_map (invert k) x = invert_letter k x
letter_map (cut a set) x = x

-- The move is a swap or an inversion of rank n.
pub record IsTurnOfRank (n : ℕ) (m : Move) : Type 0 where
  pub rank : m.rank ≡ n
  pub turn : IsTurn n m.kind

-- ---- lists of moves
-- The generator, counted from 0, that the swap of generators k and k + 1, counted from 1, takes a generator to.
abbrev pub swap_generator : ℕ → ℕ → ℕ
swap_generator k g = cond (g + 1 == k) (g + 1) (cond (g == k) (g - 1) g)

-- The generator that swaps take a generator to, one after the other.
abbrev pub swap_generators : List ℕ → ℕ → ℕ
swap_generators [] g = g
swap_generators (k ∷ ks) g = swap_generators ks (swap_generator k g)

-- Swaps of rank n take each generator to the generator of its image.
pub record SortGenerators (n : ℕ) (images ks : List ℕ) : Type 0 where
  pub swaps : All (λ k. IsKind n (swap k)) ks
  pub sorts : (g : ℕ) → g < n → swap_generators ks g ≡ get_or images g 0 / 2

-- Of the shortest lists of swaps that do so the first, compared swap by swap.
pub record AreFirstSwaps (n : ℕ) (images ks : List ℕ) : Type 0 where
  pub sort : SortGenerators n images ks
  pub shortest : (js : List ℕ) → SortGenerators n images js → length ks ≤ length js
  pub first : (js : List ℕ) → SortGenerators n images js → length js ≡ length ks → is_gt (slice_cmp nat_cmp ks js) ≡ false

-- The numbers rise at each place.
abbrev pub Rise : List ℕ → Type 0
Rise ks = (i j : ℕ) → i < j → j < length ks → get_or ks i 0 < get_or ks j 0

-- Some image is the inverse of generator k, counted from 1, whose index is 2 k - 1.
abbrev pub HasInverse : ℕ → List ℕ → ℕ → Type 0
HasInverse n images k = (g : ℕ) × (g < n) × (get_or images g 0 + 1 ≡ 2 * k)

-- The generators whose inverses are images, rising.
pub record AreInverted (n : ℕ) (images ks : List ℕ) : Type 0 where
  pub rise : Rise ks
  pub inverted : (k : ℕ) → Contains ks k ↔ HasInverse n images k

-- The moves of a signed permutation: first its swaps, and then its inversions.
pub record IsPermWord (p : SignedPerm) (ms : List Move) : Type 0 where
  pub swaps : List ℕ
  pub inversions : List ℕ
  pub is : ms ≡ map (λ k. record { rank = p.rank; kind = swap k }) swaps ++ map (λ k. record { rank = p.rank; kind = invert k }) inversions
  pub first : AreFirstSwaps p.rank p.images swaps
  pub inverted : AreInverted p.rank p.images inversions

-- ---- how they are found
-- The generator at place k isn't below the one before it.
abbrev pub Ascends : List ℕ → ℕ → Type 0
Ascends letters k = get_or letters (k - 1) 0 / 2 ≤ get_or letters k 0 / 2

-- The generators ascend at each place.
abbrev pub Ascend : List ℕ → Type 0
Ascend letters = (k : ℕ) → 0 < k → k < length letters → Ascends letters k

-- Place k is the first whose generator is below the one before it.
pub record IsFirstDescent (letters : List ℕ) (k : ℕ) : Type 0 where
  pub behind : 0 < k
  pub within : k < length letters
  pub descends : get_or letters k 0 / 2 < get_or letters (k - 1) 0 / 2
  pub first : (j : ℕ) → 0 < j → j < k → Ascends letters j

-- The numbers, from 1, of those of the first g letters that are inverses, rising.
abbrev pub inverted_below : ℕ → List ℕ → List ℕ
inverted_below zero letters = []
inverted_below (suc g) letters = cond (get_or letters g 0 % 2 == 1) (inverted_below g letters ++ suc g ∷ []) (inverted_below g letters)

-- A list of moves takes each letter of rank n to the letter that a map tells.
abbrev pub TakeLetters : ℕ → List Move → (ℕ → ℕ) → Type 0
TakeLetters n ms f = (x : ℕ) → x < 2 * n → substitute_all ms (x ∷ []) ≡ f x ∷ []
