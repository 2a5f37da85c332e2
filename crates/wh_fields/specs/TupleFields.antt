-- What a `tuple` line tells: words, neither too many nor with too many letters as they are written.
use Rattle.std.specs.Prelude.{ℕ, ltb, cond, List, length, map, Result, Ok, Err, ◌≡◌}
use Rattle.std.specs.List.{sum_by}
use Rattle.wh_words.specs.Limits.{most_words, most_letters}
use Rattle.wh_words.specs.CyclicWords.{cyclic_word}
use Rattle.wh_words.specs.Tuples.{TupleData, IsTuple}
use Rattle.wh_lines.specs.declared.read_error.ReadError.{ReadError}
use Rattle.wh_lines.specs.declared.read_error.ReadError.TheVariants as errors
use Rattle.wh_lines.specs.Rows.{Row}
use Rattle.wh_lines.specs.Lines.{Field}
use Rattle.wh_lines.specs.Readings.{◌>>=◌, items_at}
use Rattle.wh_fields.specs.Words.{word_at, word_text}

-- The words of some fields.
abbrev pub words_at : ℕ → ℕ → List Field → Result (List (List ℕ)) ReadError
words_at n l fs = items_at (word_at n l) fs

-- The tuple of the cyclic words of words in line l, where these aren't too long.
abbrev pub short_tuple : ℕ → ℕ → List (List ℕ) → Result TupleData ReadError
short_tuple n l ws = cond (ltb most_letters (sum_by length ws)) (Err (errors.LongTuple l (sum_by length ws))) (Ok (record { rank = n; words = map cyclic_word ws }))

-- The tuple of the fields after the keyword: first their number is tried, then their letters, and then the length.
unfoldable pub tuple_at : ℕ → ℕ → List Field → Result TupleData ReadError
tuple_at n l fs =
    cond (ltb most_words (length fs)) (Err (errors.TooManyWords l (length fs)))
    (words_at n l fs >>= λ ws. short_tuple n l ws)

-- The row of a keyword and words.
abbrev pub words_row : List ℕ → List (List ℕ) → Row
words_row keyword ws = record { keyword = keyword; fields = map word_text ws }

-- A tuple of rank n with so many words.
pub record IsTupleOf (n count : ℕ) (t : TupleData) : Type 0 where
  pub tuple : IsTuple t
  pub rank : t.rank ≡ n
  pub size : length t.words ≡ count
