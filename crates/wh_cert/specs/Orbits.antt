-- Orbits of tuples under swaps and inversions in a list of tuples, after Lyndon and Schupp, I.4.
use Rattle.std.specs.Prelude.{◌≡◌, ◌⊎◌, ℕ, ◌<◌, Bool, true, false, List, Contains, slice_get, Some}
use Rattle.wh_words.specs.Tuples.{TupleData, IsTuple}
use Rattle.wh_words.specs.Moves.{Move, Kind}
use Rattle.wh_words.specs.Moves.Kind.{swap, invert, cut}
use Rattle.wh_words.specs.Action.{act}
use Rattle.wh_words.specs.Levels.{IsLevelMove}
use Rattle.wh_cert.specs.Demands.{ImagesAreIn}
use Rattle.wh_cert.specs.Listings.{StaysIn, SwapsStay, InversionsStay}

-- Swaps and inversions permute the letters. They are level moves of every tuple.
abbrev pub PermutesLetters : Kind → Type 0
PermutesLetters (swap k) = Unit {0}
PermutesLetters (invert k) = Unit {0}
PermutesLetters (cut a set) = ⊥

-- The images of the tuples of a list under swaps and inversions are in the list.
abbrev pub OrbitsAreIn : List TupleData → Type 0
OrbitsAreIn ts = (t : TupleData) → Contains ts t → SwapsStay ts t × InversionsStay ts t

-- The images of the tuples of a list under their level moves are in the list.
abbrev pub IsClosed : List TupleData → Type 0
IsClosed ts = (t : TupleData) → Contains ts t → ImagesAreIn ts t

-- An image of the tuple under a swap or an inversion stands in the list before a place.
pub record HasEarlierImage (ts : List TupleData) (t : TupleData) (place : ℕ) : Type 0 where
  pub move : Move
  pub level : IsLevelMove t move
  pub permutes : PermutesLetters move.kind
  pub at : ℕ
  pub before : at < place
  pub there : slice_get ts at ≡ Some (act t move)

-- The images of a tuple under swaps and the inversion of the first generator, which generate the permutations of letters, are in the list.
pub record IsPermutedIn (ts : List TupleData) (t : TupleData) : Type 0 where
  pub tuple : IsTuple t
  pub swaps : SwapsStay ts t
  pub inversion : StaysIn ts t (record { rank = t.rank; kind = invert 1 })

-- So are those of the tuple at a place, and an image under a swap or an inversion stands before it, or the images under all level moves are in the list.
pub record IsJudgedAt (ts : List TupleData) (place : ℕ) (t : TupleData) : Type 0 where
  pub permuted : IsPermutedIn ts t
  pub either : HasEarlierImage ts t place ⊎ ImagesAreIn ts t

-- This is so of the tuples before a place.
abbrev pub AreJudgedBefore : List TupleData → ℕ → Type 0
AreJudgedBefore ts place = (k : ℕ) (t : TupleData) → k < place → slice_get ts k ≡ Some t → IsJudgedAt ts k t

-- What a test tells of the tuple at a place: that this is so of it, or that an image under a level move isn't in the list.
abbrev pub IsJudged : List TupleData → ℕ → Bool → Type 0
IsJudged ts place true = (t : TupleData) → slice_get ts place ≡ Some t → IsJudgedAt ts place t
IsJudged ts place false = ¬ (IsClosed ts)
