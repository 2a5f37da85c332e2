-- What peak reduction shows, as statements that contracts name, after Whitehead 1936, and Lyndon and Schupp, I.4.
use Rattle.std.specs.Prelude.{◌≡◌, ◌≢◌, ◌+◌, ◌<◌, ◌≤◌, List, ◌↔◌, ℕ, [], ◌++◌, length, take}
use Rattle.wh_words.specs.Limits.{most_rank}
use Rattle.wh_words.specs.Tuples.{TupleData, IsTuple, tuple_length}
use Rattle.wh_words.specs.Moves.{Move}
use Rattle.wh_words.specs.MoveLists.{inverse_list}
use Rattle.wh_words.specs.Action.{act, act_all}
use Rattle.wh_words.specs.Traces.{IsFlat}
use Rattle.wh_words.specs.CapacityTraces.{IsFlatByCapacities, IsCapacityTrace}
use Rattle.wh_words.specs.Levels.{Reaches, InLevel, IsFirstWalk}
use Rattle.wh_peak.specs.Equivalence.{IsMoveOfRank, AreMovesOfRank, AreEquivalent, IsShortest}
use Rattle.wh_words.specs.Composites.{composite}
use Rattle.wh_peak.specs.Automorphisms.{AreAlike, Fixes}
use Rattle.wh_peak.specs.Relations.{IsTrivial}
use Rattle.wh_peak.specs.Stabilisers.{LeadsToFlat, ArePaths, IsGenerator, IsProduct, IsWordOf}
use Rattle.wh_peak.specs.Straightness.{IsStraight, IsStraightened, IsLowered}

-- ---- equivalence
-- A tuple is equivalent to itself.
abbrev pub EquivalenceIsReflexive : Type 0
EquivalenceIsReflexive = (t : TupleData) → AreEquivalent t t

-- Of two equivalent tuples each is equivalent to the other.
abbrev pub EquivalenceIsSymmetric : Type 0
EquivalenceIsSymmetric = (t u : TupleData) → IsTuple t → AreEquivalent t u → AreEquivalent u t

-- Two tuples that are equivalent to a third are equivalent.
abbrev pub EquivalenceIsTransitive : Type 0
EquivalenceIsTransitive = (t u v : TupleData) → AreEquivalent t u → AreEquivalent u v → AreEquivalent t v

-- ---- automorphisms
-- A list of moves and its inverse cancel.
abbrev pub InverseListsCancel : Type 0
InverseListsCancel = (n : ℕ) (ms : List Move) → AreMovesOfRank n ms → (composite n (ms ++ inverse_list ms) ≡ composite n []) × (composite n (inverse_list ms ++ ms) ≡ composite n [])

-- Lists with one composite act alike.
abbrev pub OneCompositeActsAlike : Type 0
OneCompositeActsAlike = (t : TupleData) (ms ns : List Move) → IsTuple t → AreMovesOfRank t.rank ms → AreMovesOfRank t.rank ns → composite t.rank ms ≡ composite t.rank ns → act_all t ms ≡ act_all t ns

-- Alike lists act alike.
abbrev pub AlikeListsActAlike : Type 0
AlikeListsActAlike = (t : TupleData) (ms ns : List Move) → IsTuple t → AreMovesOfRank t.rank ms → AreMovesOfRank t.rank ns → AreAlike t.rank ms ns → act_all t ms ≡ act_all t ns

-- A list is alike to itself.
abbrev pub AlikeIsReflexive : Type 0
AlikeIsReflexive = (n : ℕ) (ms : List Move) → AreAlike n ms ms

-- Of two alike lists each is alike to the other.
abbrev pub AlikeIsSymmetric : Type 0
AlikeIsSymmetric = (n : ℕ) (ms ns : List Move) → AreMovesOfRank n ms → AreMovesOfRank n ns → AreAlike n ms ns → AreAlike n ns ms

-- Lists that are alike to a third are alike.
abbrev pub AlikeIsTransitive : Type 0
AlikeIsTransitive = (n : ℕ) (ms ns qs : List Move) → AreMovesOfRank n ms → AreMovesOfRank n ns → AreMovesOfRank n qs → AreAlike n ms ns → AreAlike n ns qs → AreAlike n ms qs

-- Alike lists may stand between others.
abbrev pub AlikeBetweenLists : Type 0
AlikeBetweenLists = (n : ℕ) (ps ms ns qs : List Move) → AreMovesOfRank n ps → AreMovesOfRank n ms → AreMovesOfRank n ns → AreMovesOfRank n qs → AreAlike n ms ns → AreAlike n (ps ++ (ms ++ qs)) (ps ++ (ns ++ qs))

-- ---- peaks
-- Over a tuple that no move of two lengthens and that one of them shortens, some list leads round by shorter tuples.
abbrev pub PeaksCanBeLowered : Type 0
PeaksCanBeLowered = (top : TupleData) (left right : Move) → IsTuple top → IsMoveOfRank top.rank left → IsMoveOfRank top.rank right →
    tuple_length (act top left) ≤ tuple_length top → tuple_length (act top right) ≤ tuple_length top → tuple_length (act top left) + tuple_length (act top right) < tuple_length top + tuple_length top →
    (ms : List Move) × IsLowered top left right ms

-- Each list of moves has a straight one that is alike to it and has the same end.
abbrev pub ListsCanBeStraightened : Type 0
ListsCanBeStraightened = (t : TupleData) (ms : List Move) → IsTuple t → t.rank ≤ most_rank → AreMovesOfRank t.rank ms → (ns : List Move) × IsStraightened t ms ns

-- ---- straight ways
-- On a straight way no tuple is longer than both ends.
abbrev pub StraightWaysStayLow : Type 0
StraightWaysStayLow = (t : TupleData) (ms : List Move) → IsStraight t ms → (bound : ℕ) → tuple_length t ≤ bound → tuple_length (act_all t ms) ≤ bound → (k : ℕ) → k ≤ length ms → tuple_length (act_all t (take k ms)) ≤ bound

-- Between flat tuples all tuples on a straight way have one length.
abbrev pub StraightWaysBetweenFlatStay : Type 0
StraightWaysBetweenFlatStay = (t : TupleData) (ms : List Move) → IsTuple t → t.rank ≤ most_rank → AreMovesOfRank t.rank ms → IsFlat t → IsFlat (act_all t ms) → IsStraight t ms → (k : ℕ) → k ≤ length ms → tuple_length (act_all t (take k ms)) ≡ tuple_length t

-- ---- shortest tuples
-- A tuple that no cut shortens is shortest, and the other way round.
abbrev pub FlatIsShortest : Type 0
FlatIsShortest = (t : TupleData) → IsTuple t → t.rank ≤ most_rank → IsFlat t ↔ IsShortest t

-- The same by capacities.
abbrev pub TightIsShortest : Type 0
TightIsShortest = (t : TupleData) → IsTuple t → t.rank ≤ most_rank → IsFlatByCapacities t ↔ IsShortest t

-- Of two shortest tuples that are equivalent each is in the level of the other.
abbrev pub ShortestShareALevel : Type 0
ShortestShareALevel = (t u : TupleData) → IsTuple t → t.rank ≤ most_rank → IsFlat t → IsFlat u → AreEquivalent t u → InLevel t u

-- ---- what tells that tuples aren't equivalent
-- Two tuples are equivalent exactly where flat tuples that they are equivalent to share a level.
abbrev pub FlatEndsTell : Type 0
FlatEndsTell = (s t u v : TupleData) → IsTuple s → IsTuple t → s.rank ≡ t.rank → s.rank ≤ most_rank → AreEquivalent s u → AreEquivalent t v → IsFlat u → IsFlat v → AreEquivalent s t ↔ InLevel u v

-- Two tuples are equivalent exactly where the ends of their traces share a level.
abbrev pub TraceEndsTell : Type 0
TraceEndsTell = (s t u v : TupleData) (ms ns : List Move) → IsTuple s → IsTuple t → s.rank ≡ t.rank → s.rank ≤ most_rank → IsCapacityTrace s ms u → IsCapacityTrace t ns v → AreEquivalent s t ↔ InLevel u v

-- A no by lengths is true: tuples whose traces end at tuples of different lengths aren't equivalent.
abbrev pub OtherLengthsTellApart : Type 0
OtherLengthsTellApart = (s t u v : TupleData) (ms ns : List Move) → IsTuple s → IsTuple t → s.rank ≡ t.rank → s.rank ≤ most_rank → IsCapacityTrace s ms u → IsCapacityTrace t ns v →
    tuple_length u ≢ tuple_length v → ¬ (AreEquivalent s t)

-- A no by a level is true: tuples aren't equivalent where the end of the second trace isn't in the level of the end of the first.
abbrev pub OtherLevelsTellApart : Type 0
OtherLevelsTellApart = (s t u v : TupleData) (ms ns : List Move) → IsTuple s → IsTuple t → s.rank ≡ t.rank → s.rank ≤ most_rank → IsCapacityTrace s ms u → IsCapacityTrace t ns v →
    ¬ (InLevel u v) → ¬ (AreEquivalent s t)

-- ---- what fixes a tuple
-- Each generator fixes the tuple.
abbrev pub GeneratorsFix : Type 0
GeneratorsFix = (t root : TupleData) (to_root : List Move) (path : TupleData → List Move) → IsTuple t → LeadsToFlat t to_root root → ArePaths root path →
    (ms : List Move) → IsGenerator to_root root path ms → Fixes ms t

-- Each list of moves that fixes a tuple is the same automorphism as a product of generators.
abbrev pub GeneratorsGenerate : Type 0
GeneratorsGenerate = (t root : TupleData) (to_root : List Move) (path : TupleData → List Move) → IsTuple t → t.rank ≤ most_rank → LeadsToFlat t to_root root → ArePaths root path →
    (ms : List Move) → AreMovesOfRank t.rank ms → Fixes ms t → (product : List Move) × IsProduct (IsGenerator to_root root path) product × (composite t.rank ms ≡ composite t.rank product)

-- A trace leads to a flat tuple.
abbrev pub TracesLeadToFlat : Type 0
TracesLeadToFlat = (t root : TupleData) (ms : List Move) → IsTuple t → t.rank ≤ most_rank → IsCapacityTrace t ms root → LeadsToFlat t ms root

-- First walks are a choice of paths.
abbrev pub FirstWalksArePaths : Type 0
FirstWalksArePaths = (root : TupleData) (path : TupleData → List Move) → ((t : TupleData) → InLevel root t → IsFirstWalk root t (path t)) → ArePaths root path

-- The word of a way round, from a tuple of the level back to it, is trivial where the moves of the way are.
abbrev pub WaysRoundAreRelators : Type 0
WaysRoundAreRelators = (t root : TupleData) (to_root : List Move) (path : TupleData → List Move) → LeadsToFlat t to_root root → ArePaths root path →
    (v : TupleData) (ms word : List Move) → InLevel root v → Reaches v ms v → IsTrivial t.rank ms → IsWordOf to_root path v ms word → IsTrivial t.rank word
