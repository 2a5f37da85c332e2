-- Which texts are certificates, in the words of what is written.
use Rattle.std.specs.Prelude.{◌≡◌, ◌↔◌, ℕ, ◌+◌, ◌-◌, ◌≤◌, List, [], ◌∷◌, ◌++◌, length, map, Ok, Err, codes}
use Rattle.std.specs.List.{All, sum_by}
use Rattle.wh_words.specs.Limits.{most_rank, most_level_rank, most_words, most_letters, most_level_tuples, most_level_edges, most_relators, most_stabiliser_rank}
use Rattle.wh_words.specs.Words.{IsOfRank}
use Rattle.wh_words.specs.CyclicWords.{cyclic_word}
use Rattle.wh_words.specs.Tuples.{TupleData}
use Rattle.wh_words.specs.Moves.{Move}
use Rattle.wh_lines.specs.declared.read_error.ReadError.TheVariants as errors
use Rattle.wh_lines.specs.Lines.{lines}
use Rattle.wh_lines.specs.Rows.{Row, number_row}
use Rattle.wh_lines.specs.Laws.{IsClean, field_texts, kept_lines, kept_numbers, texts_of, EachRow}
use Rattle.wh_fields.specs.TupleFields.{words_row}
use Rattle.wh_fields.specs.FlowFields.{FlowData}
use Rattle.wh_fields.specs.StabiliserFields.{TreeEdgeData, RelatorLineData}
use Rattle.wh_fields.specs.Laws.{AreMoveFields, IsFlowLine, IsTreeEdgeLine, IsGeneratorLine, IsRelatorLine}
use Rattle.wh_data.specs.Limits.{most_answer_bytes}
use Rattle.wh_data.specs.RootPlaces.{root_place}
use Rattle.wh_data.specs.AnswerData.{SideData, VerdictData, PartsData, StabVerdictData, AnswerData, CertificateData}
use Rattle.wh_data.specs.AnswerData.VerdictData.{yes, no_length, no_level, undecided}
use Rattle.wh_data.specs.AnswerData.StabVerdictData.{done, stopped}
use Rattle.wh_data.specs.AnswerData.AnswerData.{reduce, decide, straighten, stabiliser}
use Rattle.wh_data.specs.declared.command.Command.TheVariants as commands
use Rattle.wh_data.specs.Commands.{heading_row}
use Rattle.wh_data.specs.AnswerTexts.{verdict_row, done_row}
use Rattle.wh_text.specs.Certificates.{tree_with, loop_of, certificate}

-- ---- lines
-- The row has this keyword and tells a tuple of rank n: words, which need not be reduced, neither too many nor with too many letters.
pub record IsTupleRow (keyword : List ℕ) (n : ℕ) (row : Row) (t : TupleData) : Type 0 where
  pub written : List (List ℕ)
  pub spelled : row ≡ words_row keyword written
  pub of_rank : All (IsOfRank n) written
  pub few : length written ≤ most_words
  pub short : sum_by length written ≤ most_letters
  pub cyclic : t ≡ record { rank = n; words = map cyclic_word written }

-- It has so many words.
abbrev pub IsLikeRow : List ℕ → ℕ → ℕ → Row → TupleData → Type 0
IsLikeRow keyword n count row t = IsTupleRow keyword n row t × (length t.words ≡ count)

abbrev pub IsMovesRow : List ℕ → ℕ → Row → List Move → Type 0
IsMovesRow keyword n row ms = (row.keyword ≡ keyword) × AreMoveFields n row.fields ms

abbrev pub IsFlowRow : ℕ → Row → FlowData → Type 0
IsFlowRow n row told = (row.keyword ≡ codes "flow") × IsFlowLine n row.fields told

abbrev pub IsTreeRow : ℕ → Row → TreeEdgeData → Type 0
IsTreeRow n row told = (row.keyword ≡ codes "tree") × IsTreeEdgeLine n row.fields told

abbrev pub IsGeneratorRow : ℕ → Row → ℕ × Move → Type 0
IsGeneratorRow n row told = (row.keyword ≡ codes "generator") × IsGeneratorLine n row.fields told

abbrev pub IsRelatorRow : ℕ → Row → RelatorLineData → Type 0
IsRelatorRow n row told = (row.keyword ≡ codes "relator") × IsRelatorLine n row.fields told

-- ---- sides and levels
-- The rows are a side in rank n: a `trace` line with moves, an `end` line, and a `flow` line for each generator.
pub record IsSideText (n count : ℕ) (rows : List Row) (side : SideData) (heads : List (ℕ × ℕ)) : Type 0 where
  pub trace_row : Row
  pub end_row : Row
  pub flow_rows : List Row
  pub told : List FlowData
  pub parts : rows ≡ trace_row ∷ end_row ∷ flow_rows
  pub trace : IsMovesRow (codes "trace") n trace_row side.trace
  pub end : IsLikeRow (codes "end") n count end_row side.end
  pub flows : EachRow (IsFlowRow n) flow_rows told
  pub count_of : length told ≡ n
  pub tables : side.flows ≡ map (λ f. f.table) told
  pub heads_of : heads ≡ map (λ f. f.head) told

-- The rows are a level in rank n: a `level` line with the number of its tuples, and an `at` line for each.
pub record IsLevelText (n count : ℕ) (rows : List Row) (ts : List TupleData) : Type 0 where
  pub at_rows : List Row
  pub parts : rows ≡ number_row (codes "level") (length ts) ∷ at_rows
  pub least : 1 ≤ length ts
  pub most : length ts ≤ most_level_tuples
  pub tuples : EachRow (IsLikeRow (codes "at") n count) at_rows ts

-- ---- verdicts
-- The rows are two sides.
pub record AreSideTexts (n count : ℕ) (rows : List Row) (a b : SideData) (heads : List (ℕ × ℕ)) : Type 0 where
  pub first : List Row
  pub second : List Row
  pub first_heads : List (ℕ × ℕ)
  pub second_heads : List (ℕ × ℕ)
  pub parts : rows ≡ first ++ second
  pub one : IsSideText n count first a first_heads
  pub two : IsSideText n count second b second_heads
  pub heads_of : heads ≡ first_heads ++ second_heads

-- The rows after a verdict: a `moves` line, two sides, or two sides and a level. An undecided verdict is no certificate.
abbrev pub IsVerdictText : ℕ → ℕ → List Row → VerdictData → List (ℕ × ℕ) → Type 0
IsVerdictText n count rows (yes ms) heads = (row : Row) × (rows ≡ row ∷ []) × IsMovesRow (codes "moves") n row ms × (heads ≡ [])
IsVerdictText n count rows (no_length a b) heads = AreSideTexts n count rows a b heads
IsVerdictText n count rows (no_level a b ts) heads = (sides : List Row) × (level : List Row) × (rows ≡ sides ++ level) × AreSideTexts n count sides a b heads × IsLevelText n count level ts
IsVerdictText n count rows (undecided bound) heads = ⊥

-- ---- stabilisers
-- The rows tell these, at most so many: a line with a keyword and their number, and a line for each.
pub record AreCountedRows {A : Type 0} (keyword : List ℕ) (most : ℕ) (tells : Row → A → Type 0) (rows : List Row) (xs : List A) : Type 0 where
  pub item_rows : List Row
  pub parts : rows ≡ number_row keyword (length xs) ∷ item_rows
  pub few : length xs ≤ most
  pub items : EachRow tells item_rows xs

-- The rows present the stabiliser of an end in rank n: a `tree` line for each vertex but the end, in order, whatever vertex it names; the generators; and the relators.
pub record IsPartsText (n : ℕ) (end : TupleData) (rows : List Row) (p : PartsData) (heads : List ℕ) : Type 0 where
  pub tree_rows : List Row
  pub generator_rows : List Row
  pub relator_rows : List Row
  pub edges : List TreeEdgeData
  pub told : List RelatorLineData
  pub parts : rows ≡ tree_rows ++ (generator_rows ++ relator_rows)
  pub tree : EachRow (IsTreeRow n) tree_rows edges
  pub count : length edges ≡ length p.vertices - 1
  pub entries : p.tree ≡ tree_with (root_place end p.vertices) edges
  pub heads_of : heads ≡ map (λ e. e.head) edges
  pub generators : AreCountedRows (codes "generators") most_level_edges (IsGeneratorRow n) generator_rows p.generators
  pub relators : AreCountedRows (codes "relators") most_relators (IsRelatorRow n) relator_rows told
  pub loops : p.relators ≡ map loop_of told

-- The rows after a tuple are its side, the level of the end, and what presents the stabiliser. An undecided answer is no certificate.
abbrev pub IsStabText : ℕ → ℕ → List Row → StabVerdictData → List (ℕ × ℕ) → List ℕ → Type 0
IsStabText n count rows (done s p) heads tree_heads =
    (side : List Row) × (level : List Row) × (after : List Row) × (rows ≡ side ++ (level ++ after))
    × IsSideText n count side s heads × IsLevelText n count level p.vertices × IsPartsText n s.end after p tree_heads
IsStabText n count rows (stopped bound) heads tree_heads = ⊥

-- The rows are an answer of `stabiliser`: a heading, a rank that it allows, the tuple, what is answered, and `done`.
abbrev pub IsStabAnswerText : List Row → TupleData → StabVerdictData → List (ℕ × ℕ) → List ℕ → Type 0
IsStabAnswerText rows t v heads tree_heads =
    (tuple_row : Row) × (after : List Row)
    × (rows ≡ heading_row commands.Stabiliser ∷ number_row (codes "rank") t.rank ∷ tuple_row ∷ after ++ done_row ∷ [])
    × (1 ≤ t.rank) × (t.rank ≤ most_stabiliser_rank)
    × IsTupleRow (codes "tuple") t.rank tuple_row t × IsStabText t.rank (length t.words) after v heads tree_heads

-- ---- answers
-- The rows are an answer that can be checked: a heading, a rank that its command allows, the tuples, what is answered, and `done`.
abbrev pub IsAnswerText : List Row → AnswerData → List (ℕ × ℕ) → List ℕ → Type 0
IsAnswerText rows (reduce t s) heads tree_heads =
    (tuple_row : Row) × (side : List Row)
    × (rows ≡ heading_row commands.Reduce ∷ number_row (codes "rank") t.rank ∷ tuple_row ∷ side ++ done_row ∷ [])
    × (1 ≤ t.rank) × (t.rank ≤ most_rank)
    × IsTupleRow (codes "tuple") t.rank tuple_row t × IsSideText t.rank (length t.words) side s heads × (tree_heads ≡ [])
IsAnswerText rows (decide s t v) heads tree_heads =
    (first_row : Row) × (second_row : Row) × (after : List Row)
    × (rows ≡ heading_row commands.Decide ∷ number_row (codes "rank") s.rank ∷ first_row ∷ second_row ∷ verdict_row v ∷ after ++ done_row ∷ [])
    × (1 ≤ s.rank) × (s.rank ≤ most_level_rank)
    × IsTupleRow (codes "first") s.rank first_row s × IsLikeRow (codes "second") s.rank (length s.words) second_row t
    × IsVerdictText s.rank (length s.words) after v heads × (tree_heads ≡ [])
IsAnswerText rows (straighten t given ms end) heads tree_heads = ⊥
IsAnswerText rows (stabiliser t v) heads tree_heads = IsStabAnswerText rows t v heads tree_heads

-- The text is a certificate: no byte of it is bad, its lines that aren't skipped are these rows, whatever spaces stand between their fields, and its numbers are those of these lines.
pub record IsCertificateText (bytes : List ℕ) (c : CertificateData) : Type 0 where
  pub clean : All IsClean (lines bytes)
  pub rows : List Row
  pub kept : map field_texts (kept_lines (lines bytes)) ≡ map texts_of rows
  pub told : IsAnswerText rows c.answer c.flow_heads c.tree_heads
  pub numbers : c.lines ≡ kept_numbers 1 (lines bytes)

-- A certificate is read exactly from a text that is one and isn't too long.
abbrev pub ReadsCertificates : Type 0
ReadsCertificates = (bytes : List ℕ) (c : CertificateData) → (certificate bytes ≡ Ok c) ↔ ((length bytes ≤ most_answer_bytes) × IsCertificateText bytes c)

-- ---- the first bad line
-- These are the first lines of some certificate, whatever its size.
pub record BeginACertificate (ls : List (List ℕ)) : Type 0 where
  pub text : List ℕ
  pub after : List (List ℕ)
  pub parts : lines text ≡ ls ++ after
  pub c : CertificateData
  pub is : IsCertificateText text c

-- No certificate begins with the lines before and the line that follows them, whatever its size; where none follows, no certificate has the lines before alone.
abbrev pub NoneGoesOn : List (List ℕ) → List (List ℕ) → Type 0
NoneGoesOn before [] = (text : List ℕ) (c : CertificateData) → lines text ≡ before → IsCertificateText text c → ⊥
NoneGoesOn before (line ∷ after) = BeginACertificate (before ++ line ∷ []) → ⊥

-- Line l is the first that no certificate with the lines before it has; or it is the place past the end, where a certificate goes on and the text doesn't.
pub record IsFirstBadLine (bytes : List ℕ) (l : ℕ) : Type 0 where
  pub before : List (List ℕ)
  pub from_it : List (List ℕ)
  pub parts : lines bytes ≡ before ++ from_it
  pub line : l ≡ length before + 1
  pub goes_on : BeginACertificate before
  pub stops : NoneGoesOn before from_it

-- A refusal of a line names the first bad one.
abbrev pub NamesTheFirstBadLine : Type 0
NamesTheFirstBadLine = (bytes : List ℕ) (l : ℕ) → certificate bytes ≡ Err (errors.BadLine l) → IsFirstBadLine bytes l
