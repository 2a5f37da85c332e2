-- The laws of reading, in the words of what is written: what is read is spelled so, and what is spelled so is read.
use Rattle.std.specs.Prelude.{◌≡◌, ℕ, ◌+◌, ◌≤◌, ◌↔◌, false, List, [], ◌∷◌, ◌++◌, length, map, Ok, Err, decimal, codes}
use Rattle.std.specs.List.{All, sum_by}
use Rattle.wh_words.specs.Limits.{most_rank, most_level_rank, most_stabiliser_rank, most_words, most_letters}
use Rattle.wh_words.specs.Words.{IsOfRank}
use Rattle.wh_words.specs.CyclicWords.{cyclic_word}
use Rattle.wh_words.specs.Tuples.{TupleData}
use Rattle.wh_words.specs.Moves.{Move}
use Rattle.wh_data.specs.declared.command.Command.{Command}
use Rattle.wh_data.specs.declared.command.Command.TheVariants as commands
use Rattle.wh_lines.specs.declared.read_error.ReadError.TheVariants as errors
use Rattle.wh_lines.specs.Lines.{lines, is_allowed}
use Rattle.wh_fields.specs.Words.{word_text}
use Rattle.wh_data.specs.ProblemData.ProblemData.{reduce, decide, straighten, stabiliser}
use Rattle.wh_fields.specs.Laws.{AreMoveFields}
use Rattle.wh_text.specs.Problems.{problem}
use Rattle.wh_data.specs.Limits.{most_problem_bytes, most_given_moves}
use Rattle.wh_lines.specs.Laws.{IsClean, field_texts, kept_lines}

-- The line tells a rank.
abbrev pub IsRankLine : ℕ → List ℕ → Type 0
IsRankLine n line = field_texts line ≡ codes "rank" ∷ decimal n ∷ []

-- The line tells a tuple of rank n: words that need not be reduced, neither too many nor with too many letters as they are written.
pub record IsTupleLine (n : ℕ) (line : List ℕ) (t : TupleData) : Type 0 where
  pub written : List (List ℕ)
  pub spelled : field_texts line ≡ codes "tuple" ∷ map word_text written
  pub of_rank : All (IsOfRank n) written
  pub few : length written ≤ most_words
  pub short : sum_by length written ≤ most_letters
  pub cyclic : t ≡ record { rank = n; words = map cyclic_word written }

-- The text states a problem of one tuple: its kept lines are a line with a rank, which is no greater than the command allows, and a line with the tuple.
pub record IsTupleText (greatest_rank : ℕ) (bytes : List ℕ) (t : TupleData) : Type 0 where
  pub clean : All IsClean (lines bytes)
  pub rank_line : List ℕ
  pub tuple_line : List ℕ
  pub kept : kept_lines (lines bytes) ≡ rank_line ∷ tuple_line ∷ []
  pub rank : IsRankLine t.rank rank_line
  pub least : 1 ≤ t.rank
  pub greatest : t.rank ≤ greatest_rank
  pub tuple : IsTupleLine t.rank tuple_line t

-- The text states a problem of `reduce`.
abbrev pub IsReduceText : List ℕ → TupleData → Type 0
IsReduceText bytes t = IsTupleText most_rank bytes t

-- The text states a problem of `stabiliser`.
abbrev pub IsStabiliserText : List ℕ → TupleData → Type 0
IsStabiliserText bytes t = IsTupleText most_stabiliser_rank bytes t

-- The text states a problem of `decide`: its kept lines are a line with a rank that is low enough for levels, and a line for each of the two tuples, which have equally many words.
pub record IsDecideText (bytes : List ℕ) (s t : TupleData) : Type 0 where
  pub clean : All IsClean (lines bytes)
  pub rank_line : List ℕ
  pub first_line : List ℕ
  pub second_line : List ℕ
  pub kept : kept_lines (lines bytes) ≡ rank_line ∷ first_line ∷ second_line ∷ []
  pub rank : IsRankLine s.rank rank_line
  pub least : 1 ≤ s.rank
  pub greatest : s.rank ≤ most_level_rank
  pub first : IsTupleLine s.rank first_line s
  pub second : IsTupleLine s.rank second_line t
  pub equal : length s.words ≡ length t.words

-- The line tells moves of rank n, which aren't too many.
pub record IsMovesLine (n : ℕ) (line : List ℕ) (ms : List Move) : Type 0 where
  pub fields : List (List ℕ)
  pub spelled : field_texts line ≡ codes "moves" ∷ fields
  pub few : length fields ≤ most_given_moves
  pub told : AreMoveFields n fields ms

-- The text states a problem of `straighten`: its kept lines are a line with a rank, a line with the tuple, and a line with the moves.
pub record IsStraightenText (bytes : List ℕ) (t : TupleData) (ms : List Move) : Type 0 where
  pub clean : All IsClean (lines bytes)
  pub rank_line : List ℕ
  pub tuple_line : List ℕ
  pub moves_line : List ℕ
  pub kept : kept_lines (lines bytes) ≡ rank_line ∷ tuple_line ∷ moves_line ∷ []
  pub rank : IsRankLine t.rank rank_line
  pub least : 1 ≤ t.rank
  pub greatest : t.rank ≤ most_rank
  pub tuple : IsTupleLine t.rank tuple_line t
  pub moves : IsMovesLine t.rank moves_line ms

-- A problem of `reduce` is read exactly from a text that states it and isn't too long.
abbrev pub ReadsReduceTexts : Type 0
ReadsReduceTexts = (bytes : List ℕ) (t : TupleData) → (problem commands.Reduce bytes ≡ Ok (reduce t)) ↔ ((length bytes ≤ most_problem_bytes) × IsReduceText bytes t)

-- A problem of `decide` is read exactly from a text that states it and isn't too long.
abbrev pub ReadsDecideTexts : Type 0
ReadsDecideTexts = (bytes : List ℕ) (s t : TupleData) → (problem commands.Decide bytes ≡ Ok (decide s t)) ↔ ((length bytes ≤ most_problem_bytes) × IsDecideText bytes s t)

-- A problem of `straighten` is read exactly from a text that states it and isn't too long.
abbrev pub ReadsStraightenTexts : Type 0
ReadsStraightenTexts = (bytes : List ℕ) (t : TupleData) (ms : List Move) → (problem commands.Straighten bytes ≡ Ok (straighten t ms)) ↔ ((length bytes ≤ most_problem_bytes) × IsStraightenText bytes t ms)

-- A problem of `stabiliser` is read exactly from a text that states it and isn't too long.
abbrev pub ReadsStabiliserTexts : Type 0
ReadsStabiliserTexts = (bytes : List ℕ) (t : TupleData) → (problem commands.Stabiliser bytes ≡ Ok (stabiliser t)) ↔ ((length bytes ≤ most_problem_bytes) × IsStabiliserText bytes t)

-- Line l is the first with a byte that may not stand there, and the leftmost such byte has this column.
pub record IsFirstBadByte (bytes : List ℕ) (l column : ℕ) : Type 0 where
  pub lines_before : List (List ℕ)
  pub prefix : List ℕ
  pub bad : ℕ
  pub suffix : List ℕ
  pub lines_after : List (List ℕ)
  pub parts : lines bytes ≡ lines_before ++ (prefix ++ bad ∷ suffix) ∷ lines_after
  pub line : l ≡ length lines_before + 1
  pub place : column ≡ length prefix + 1
  pub clean_before : All IsClean lines_before
  pub clean_prefix : IsClean prefix
  pub is_bad : is_allowed bad ≡ false

-- A refusal of a byte names the first one.
abbrev pub NamesTheFirstBadByte : Type 0
NamesTheFirstBadByte = (command : Command) (bytes : List ℕ) (l column : ℕ) → problem command bytes ≡ Err (errors.BadByte l column) → IsFirstBadByte bytes l column
