-- The laws of reading, in the words of what is written: what is read is spelled so, and what is spelled so is read.
use Rattle.std.specs.Prelude.{◌≡◌, ◌≢◌, ℕ, ◌+◌, ◌*◌, ◌^◌, ◌<◌, ◌≤◌, ◌↔◌, true, false, List, [], ◌∷◌, ◌++◌, length, map, None, Some, Ok, Err, codes, decimal}
use Rattle.std.specs.List.{All}
use Rattle.wh_words.specs.Limits.{most_rank}
use Rattle.wh_words.specs.Letters.{inverse_letter}
use Rattle.wh_words.specs.LetterSets.{in_set}
use Rattle.wh_words.specs.Words.{IsOfRank}
use Rattle.wh_words.specs.Moves.{Kind, Move}
use Rattle.wh_words.specs.Moves.Kind.{swap, invert, cut}
use Rattle.wh_words.specs.Flows.{place}
use Rattle.wh_lines.specs.declared.read_error.ReadError.TheVariants as errors
use Rattle.wh_lines.specs.Lines.{Field}
use Rattle.wh_fields.specs.Words.{letter_of, letter_text, letters_at, word_at, word_text}
use Rattle.wh_fields.specs.MoveFields.{kind_in, moves_at}
use Rattle.wh_fields.specs.FlowFields.{Pair, FlowData, flow_in}
use Rattle.wh_fields.specs.StabiliserFields.{vertex_text, TreeEdgeData, tree_edge_in, generator_in, RelatorLineData, relator_in}
use Rattle.wh_flow.specs.Tables.{zero_table, with_cell}

-- Letters of a rank are read exactly from their bytes.
abbrev pub ReadsLetters : Type 0
ReadsLetters = (n l c : ℕ) (bs xs : List ℕ) → n ≤ most_rank → (letters_at n l c bs ≡ Ok xs) ↔ ((bs ≡ map letter_text xs) × IsOfRank n xs)

-- A word of a rank is read exactly from its text. A field is never empty.
abbrev pub ReadsWords : Type 0
ReadsWords = (n l : ℕ) (f : Field) (xs : List ℕ) → n ≤ most_rank → f.bytes ≢ [] → (word_at n l f ≡ Ok xs) ↔ ((f.bytes ≡ word_text xs) × IsOfRank n xs)

-- The column of a refusal is that of the leftmost byte that is no letter: the bytes before it are letters.
pub record IsFirstBadLetter (n l c : ℕ) (bs : List ℕ) (column : ℕ) : Type 0 where
  pub prefix : List ℕ
  pub bad : ℕ
  pub suffix : List ℕ
  pub parts : bs ≡ prefix ++ bad ∷ suffix
  pub place : column ≡ c + length prefix
  pub letters : List ℕ
  pub read : letters_at n l c prefix ≡ Ok letters
  pub is_bad : letter_of n bad ≡ None

-- A refusal of letters names the first one.
abbrev pub NamesTheFirstBadLetter : Type 0
NamesTheFirstBadLetter = (n l c column : ℕ) (bs : List ℕ) → letters_at n l c bs ≡ Err (errors.BadLetter l column) → IsFirstBadLetter n l c bs column

-- ---- moves
-- The letters rise, and none is before the least one.
abbrev pub RisesFrom : ℕ → List ℕ → Type 0
RisesFrom least [] = Unit {0}
RisesFrom least (x ∷ xs) = (least ≤ x) × RisesFrom (x + 1) xs

-- The set of letters that rise, as a mask.
abbrev pub set_of : List ℕ → ℕ
set_of [] = 0
set_of (x ∷ xs) = 2 ^ x + set_of xs

-- The field spells a kind of move of rank n: `s` or `i` and a number; or a letter, `:` and letters that rise, with that letter and without its inverse.
pub data IsMoveField (n : ℕ) (f : List ℕ) (kind : Kind) : Type 0 where
  a_swap : (k : ℕ) → 0 < k → k < n → f ≡ codes "s" ++ decimal k → kind ≡ swap k → IsMoveField n f kind
  an_inversion : (k : ℕ) → 0 < k → k ≤ n → f ≡ codes "i" ++ decimal k → kind ≡ invert k → IsMoveField n f kind
  a_cut : (a : ℕ) (xs : List ℕ) → a < 2 * n → IsOfRank n xs → RisesFrom 0 xs → in_set (set_of xs) a ≡ true → in_set (set_of xs) (inverse_letter a) ≡ false →
      f ≡ letter_text a ∷ codes ":" ++ map letter_text xs → kind ≡ cut a (set_of xs) → IsMoveField n f kind

-- The fields spell these moves, which are of rank n.
abbrev pub AreMoveFields : ℕ → List (List ℕ) → List Move → Type 0
AreMoveFields n [] [] = Unit {0}
AreMoveFields n [] (m ∷ ms) = ⊥
AreMoveFields n (f ∷ fs) [] = ⊥
AreMoveFields n (f ∷ fs) (m ∷ ms) = (m.rank ≡ n) × IsMoveField n f m.kind × AreMoveFields n fs ms

-- A move of a rank is read exactly from the fields that spell it.
abbrev pub ReadsMoves : Type 0
ReadsMoves = (n : ℕ) (f : List ℕ) (kind : Kind) → n ≤ most_rank → (kind_in n f ≡ Some kind) ↔ IsMoveField n f kind

-- A refusal of a move names the leftmost field that is none: the fields before it are moves.
pub record IsFirstBadMove (n l : ℕ) (fs : List Field) (column : ℕ) : Type 0 where
  pub prefix : List Field
  pub bad : Field
  pub suffix : List Field
  pub parts : fs ≡ prefix ++ bad ∷ suffix
  pub place : column ≡ bad.column
  pub moves : List Move
  pub read : moves_at n l prefix ≡ Ok moves
  pub is_bad : kind_in n bad.bytes ≡ None

-- A refusal of moves names the first field that is none.
abbrev pub NamesTheFirstBadMove : Type 0
NamesTheFirstBadMove = (n l column : ℕ) (fs : List Field) → moves_at n l fs ≡ Err (errors.BadMove l column) → IsFirstBadMove n l fs column

-- ---- flows
-- The field of a pair.
abbrev pub pair_text : Pair → List ℕ
pair_text p = letter_text p.from ∷ letter_text p.to ∷ codes ":" ++ decimal p.amount

-- Two different letters of rank n, and an amount of 1 or more that is below 2 ^ 32.
pub record IsPairOf (n : ℕ) (p : Pair) : Type 0 where
  pub from : p.from < 2 * n
  pub to : p.to < 2 * n
  pub differ : p.from ≢ p.to
  pub some : 0 < p.amount
  pub small : p.amount < 2 ^ 32

-- The pairs rise, and none is before the least place.
abbrev pub PairsRise : ℕ → List Pair → Type 0
PairsRise least [] = Unit {0}
PairsRise least (p ∷ ps) = (least ≤ place p.from p.to) × PairsRise (place p.from p.to + 1) ps

-- A table, after these pairs are put into it.
abbrev pub with_pairs : List ℕ → List Pair → List ℕ
with_pairs table [] = table
with_pairs table (p ∷ ps) = with_pairs (with_cell table p.from p.to p.amount) ps

-- The fields tell a flow in rank n: a letter, a value below 2 ^ 32, and pairs that rise. Where no pair is told, nothing flows.
pub record IsFlowLine (n : ℕ) (fs : List (List ℕ)) (told : FlowData) : Type 0 where
  pub letter : told.head.0 < 2 * n
  pub value : told.head.1 < 2 ^ 32
  pub pairs : List Pair
  pub of_rank : All (IsPairOf n) pairs
  pub rise : PairsRise 0 pairs
  pub spelled : fs ≡ (letter_text told.head.0 ∷ []) ∷ decimal told.head.1 ∷ map pair_text pairs
  pub table : told.table ≡ with_pairs zero_table pairs

-- A flow is read exactly from the fields that tell it.
abbrev pub ReadsFlows : Type 0
ReadsFlows = (n : ℕ) (fs : List Field) (told : FlowData) → n ≤ most_rank → (flow_in n fs ≡ Some told) ↔ IsFlowLine n (map (λ f. f.bytes) fs) told

-- ---- stabilisers
-- A number of a vertex or of a generator: from 1, and below 2 ^ 32.
abbrev pub IsCounting : ℕ → Type 0
IsCounting k = (0 < k) × (k < 2 ^ 32)

-- The fields tell an edge of a tree in rank n: the number of a vertex, that of its parent, and a move.
pub record IsTreeEdgeLine (n : ℕ) (fs : List (List ℕ)) (told : TreeEdgeData) : Type 0 where
  pub number : IsCounting told.head
  pub parent : IsCounting (told.parent + 1)
  pub rank : told.move.rank ≡ n
  pub field : List ℕ
  pub move : IsMoveField n field told.move.kind
  pub spelled : fs ≡ decimal told.head ∷ vertex_text told.parent ∷ field ∷ []

-- The fields tell a generator in rank n: the number of a vertex, and a move.
pub record IsGeneratorLine (n : ℕ) (fs : List (List ℕ)) (told : ℕ × Move) : Type 0 where
  pub vertex : IsCounting (told.0 + 1)
  pub rank : told.1.rank ≡ n
  pub field : List ℕ
  pub move : IsMoveField n field told.1.kind
  pub spelled : fs ≡ vertex_text told.0 ∷ field ∷ []

-- The fields tell a relator in rank n: the number of a vertex, one move or more, and behind `=` numbers of generators.
pub record IsRelatorLine (n : ℕ) (fs : List (List ℕ)) (told : RelatorLineData) : Type 0 where
  pub vertex : IsCounting (told.at + 1)
  pub fields : List (List ℕ)
  pub moves : AreMoveFields n fields told.moves
  pub some : told.moves ≢ []
  pub numbers : All IsCounting told.word
  pub spelled : fs ≡ vertex_text told.at ∷ fields ++ codes "=" ∷ map decimal told.word

-- An edge of a tree is read exactly from the fields that tell it.
abbrev pub ReadsTreeEdges : Type 0
ReadsTreeEdges = (n : ℕ) (fs : List Field) (told : TreeEdgeData) → n ≤ most_rank → (tree_edge_in n fs ≡ Some told) ↔ IsTreeEdgeLine n (map (λ f. f.bytes) fs) told

-- A generator is read exactly from the fields that tell it.
abbrev pub ReadsGenerators : Type 0
ReadsGenerators = (n : ℕ) (fs : List Field) (told : ℕ × Move) → n ≤ most_rank → (generator_in n fs ≡ Some told) ↔ IsGeneratorLine n (map (λ f. f.bytes) fs) told

-- A relator is read exactly from the fields that tell it.
abbrev pub ReadsRelators : Type 0
ReadsRelators = (n : ℕ) (fs : List Field) (told : RelatorLineData) → n ≤ most_rank → (relator_in n fs ≡ Some told) ↔ IsRelatorLine n (map (λ f. f.bytes) fs) told
