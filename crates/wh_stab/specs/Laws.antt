-- What generators and relators tell, as statements that contracts name, after McCool 1975.
use Rattle.std.specs.Prelude.{◌≡◌, ℕ, List, map}
use Rattle.std.specs.List.{All}
use Rattle.wh_words.specs.Words.{free_reduction}
use Rattle.wh_words.specs.Tuples.{TupleData}
use Rattle.wh_words.specs.Moves.{Move}
use Rattle.wh_words.specs.Levels.{Reaches, InLevel}
use Rattle.wh_words.specs.Composites.{composite}
use Rattle.wh_peak.specs.Equivalence.{AreMovesOfRank}
use Rattle.wh_peak.specs.Automorphisms.{Fixes}
use Rattle.wh_peak.specs.Relations.{IsTrivial}
use Rattle.wh_nielsen.specs.Automorphisms.{IsAutomorphism, act_by}
use Rattle.wh_level.specs.Trees.{LevelData, IsClosedLevel}
use Rattle.wh_stab.specs.SpanningTrees.{IsSpanningTree}
use Rattle.wh_stab.specs.declared.stab.Stab.{Stab}
use Rattle.wh_stab.specs.GeneratorLists.{CanList, presentation_of}
use Rattle.wh_stab.specs.Relators.{RelatorData, AreRelators}
use Rattle.wh_stab.specs.Stabilisers.{IsStabiliser}
use Rattle.wh_stab.specs.Presentations.{PresentationData, AreGenerators, IsPresented, generator_moves, word_moves, IsNumber, AreNumbers}

-- ---- generators
-- The parents of a level are a tree of it.
abbrev pub FirstWalksSpan : Type 0
FirstWalksSpan = (l : LevelData) → IsClosedLevel l → IsSpanningTree l.root l.tuples l.parents

-- Each generator fixes the tuple.
abbrev pub GeneratorsFixTheTuple : Type 0
GeneratorsFixTheTuple = (t root : TupleData) (p : PresentationData) → IsPresented t root p → (k : ℕ) → IsNumber p k → Fixes (generator_moves p k) t

-- The generators generate: each list of moves that fixes the tuple is the same automorphism as a word of generators.
abbrev pub GeneratorsGenerateTheStabiliser : Type 0
GeneratorsGenerateTheStabiliser = (t root : TupleData) (p : PresentationData) → IsPresented t root p → (ms : List Move) → AreMovesOfRank t.rank ms → Fixes ms t →
    (ks : List ℕ) × All (IsNumber p) ks × (composite t.rank ms ≡ composite t.rank (word_moves p ks))

-- Each automorphism that fixes the tuple is a word of generators.
abbrev pub AutomorphismsThatFixAreWords : Type 0
AutomorphismsThatFixAreWords = (t root : TupleData) (p : PresentationData) → IsPresented t root p → (ws : List (List ℕ)) → IsAutomorphism t.rank ws → act_by ws t ≡ t →
    (ks : List ℕ) × All (IsNumber p) ks × (composite t.rank (word_moves p ks) ≡ map free_reduction ws)

-- One list of vertices and one tree have one list of generators.
abbrev pub GeneratorsAreUnique : Type 0
GeneratorsAreUnique = (p q : PresentationData) → AreGenerators p → AreGenerators q → p.vertices ≡ q.vertices → p.tree ≡ q.tree → p.generators ≡ q.generators

-- ---- relators
-- The numbers of the edges on a way round tell a word of generators, and where the moves of the way have the identity as their composite, the word has it too.
abbrev pub WaysRoundTellRelators : Type 0
WaysRoundTellRelators = (t root v : TupleData) (p : PresentationData) (ms : List Move) (ks : List ℕ) → IsPresented t root p → InLevel root v → Reaches v ms v → AreNumbers p v ms ks → IsTrivial t.rank ms →
    All (IsNumber p) ks × IsTrivial t.rank (word_moves p ks)

-- A relation between generators of rank n: the composite of the moves of a way is the identity, and that of the word of its numbers is too.
pub record IsRelator (n : ℕ) (p : PresentationData) (r : RelatorData) : Type 0 where
  pub moves : IsTrivial n r.moves
  pub numbers : All (IsNumber p) r.word
  pub word : IsTrivial n (word_moves p r.word)

-- The relators of a stabiliser are relations between its generators.
abbrev pub RelatorsAreRelations : Type 0
RelatorsAreRelations = (t root : TupleData) (p : PresentationData) (rs : List RelatorData) → IsPresented t root p → AreRelators p rs → All (IsRelator t.rank p) rs

-- A way has one list of numbers.
abbrev pub NumbersAreUnique : Type 0
NumbersAreUnique = (t root v : TupleData) (p : PresentationData) (ms : List Move) (ks js : List ℕ) → IsPresented t root p → AreNumbers p v ms ks → AreNumbers p v ms js → ks ≡ js

-- A presentation has one list of relators.
abbrev pub RelatorsAreUnique : Type 0
RelatorsAreUnique = (t root : TupleData) (p : PresentationData) (rs ss : List RelatorData) → IsPresented t root p → AreRelators p rs → AreRelators p ss → rs ≡ ss

-- ---- what is answered
-- Each generator of a stabiliser that is answered can be written as a list of moves.
abbrev pub GeneratorsCanBeListed : Type 0
GeneratorsCanBeListed = (t : TupleData) (l : LevelData) (s : Stab) (k : ℕ) → IsStabiliser t l s → IsNumber (presentation_of s) k → CanList (presentation_of s) k
