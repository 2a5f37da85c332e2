-- The line that tells a refusal.
use Rattle.std.specs.Prelude.{ℕ, List, [], ◌++◌, codes, decimal}
use Rattle.wh_lines.specs.declared.read_error.ReadError.{ReadError}
use Rattle.wh_lines.specs.declared.read_error.ReadError.TheVariants as errors

-- The line for refused words of the command line.
abbrev pub refused_words_text : List ℕ
refused_words_text = codes "refused words\n"

-- What the line of a refusal tells after its first word. Want of memory is no refusal and has no text.
abbrev pub cause_text : ReadError → List ℕ
cause_text (errors.InputTooLong limit) = codes "input-too-long " ++ decimal limit
cause_text (errors.BadByte l c) = codes "bad-byte line " ++ decimal l ++ codes " column " ++ decimal c
cause_text (errors.NoRank l) = codes "no-rank line " ++ decimal l
cause_text (errors.RankRange l) = codes "rank-range line " ++ decimal l
cause_text (errors.LevelRank n) = codes "level-rank " ++ decimal n
cause_text (errors.BadLine l) = codes "bad-line line " ++ decimal l
cause_text (errors.TooManyWords l count) = codes "too-many-words line " ++ decimal l ++ codes " count " ++ decimal count
cause_text (errors.BadLetter l c) = codes "bad-letter line " ++ decimal l ++ codes " column " ++ decimal c
cause_text (errors.LongTuple l length) = codes "long-tuple line " ++ decimal l ++ codes " length " ++ decimal length
cause_text (errors.TooManyMoves l count) = codes "too-many-moves line " ++ decimal l ++ codes " count " ++ decimal count
cause_text (errors.BadMove l c) = codes "bad-move line " ++ decimal l ++ codes " column " ++ decimal c
cause_text (errors.TupleCount expected found) = codes "tuple-count " ++ decimal expected ++ codes " " ++ decimal found
cause_text (errors.SizeMismatch first second) = codes "size-mismatch " ++ decimal first ++ codes " " ++ decimal second
cause_text (errors.NoCertificate l) = codes "no-certificate line " ++ decimal l
cause_text errors.OutOfMemory = []

-- The line for a list of moves on whose way a tuple has too many letters: the first such tuple stands after this move, and has so many letters.
unfoldable pub too_long_text : ℕ → ℕ → List ℕ
too_long_text move length = codes "refused too-long move " ++ decimal move ++ codes " length " ++ decimal length ++ codes "\n"

-- The line of a refusal.
unfoldable pub refusal_text : ReadError → List ℕ
refusal_text e = codes "refused " ++ cause_text e ++ codes "\n"
