-- How letters and words are spelled.
use Rattle.std.specs.Prelude.{ℕ, ◌+◌, ◌-◌, ◌*◌, ◌/◌, ◌%◌, ◌==◌, leb, ltb, ◌&&◌, cond, List, [], ◌∷◌, map, Option, Some, None, Result, Ok, Err, codes}
use Rattle.wh_lines.specs.declared.read_error.ReadError.{ReadError}
use Rattle.wh_lines.specs.declared.read_error.ReadError.TheVariants as errors
use Rattle.wh_lines.specs.Lines.{Field, are}
use Rattle.wh_lines.specs.Readings.{◌>>=◌}

-- The byte of a letter: a to z for the generators, A to Z for their inverses.
abbrev pub letter_text : ℕ → ℕ
letter_text x = cond (x % 2 == 0) (97 + x / 2) (65 + x / 2)

-- The text of a word: `1` for the empty word, or its letters.
abbrev pub word_text : List ℕ → List ℕ
word_text [] = codes "1"
word_text (x ∷ xs) = map letter_text (x ∷ xs)

-- The letter of rank n that a byte stands for.
abbrev pub letter_of : ℕ → ℕ → Option ℕ
letter_of n b = cond (leb 97 b && ltb b (97 + n)) (Some (2 * (b - 97))) (cond (leb 65 b && ltb b (65 + n)) (Some (2 * (b - 65) + 1)) None)

-- A letter in column c of line l, or the refusal of what stands there.
abbrev pub letter_at : ℕ → ℕ → Option ℕ → Result ℕ ReadError
letter_at l c None = Err (errors.BadLetter l c)
letter_at l c (Some x) = Ok x

-- Letters of rank n in line l, the first one in column c.
unfoldable pub letters_at : ℕ → ℕ → ℕ → List ℕ → Result (List ℕ) ReadError
letters_at n l c [] = Ok []
letters_at n l c (b ∷ bs) =
    letter_at l c (letter_of n b) >>= λ x.
    letters_at n l (c + 1) bs >>= λ xs.
    Ok (x ∷ xs)

-- The word of a field in line l, as it is written: `1`, or letters of rank n.
abbrev pub word_at : ℕ → ℕ → Field → Result (List ℕ) ReadError
word_at n l f = cond (are f.bytes (codes "1")) (Ok []) (letters_at n l f.column f.bytes)
