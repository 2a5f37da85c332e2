-- How a field tells a move of a rank.
use Rattle.std.specs.Prelude.{ℕ, ◌+◌, ◌^◌, ◌==◌, leb, ltb, ◌&&◌, not, cond, List, [], ◌∷◌, Option, Some, None, bit_or, codes, decimal, Result, Ok, Err, map, ◌++◌, ◌≡◌}
use Rattle.std.specs.Option.{option_and_then}
use Rattle.wh_words.specs.Letters.{inverse_letter}
use Rattle.wh_words.specs.LetterSets.{in_set}
use Rattle.wh_words.specs.Moves.{Kind, IsMove, Move}
use Rattle.wh_words.specs.Moves.Kind.{swap, invert, cut}
use Rattle.wh_lines.specs.Numbers.{number}
use Rattle.wh_fields.specs.Repeated.{below}
use Rattle.wh_fields.specs.Words.{letter_of, letter_text}
use Rattle.wh_lines.specs.Rows.{Row}
use Rattle.wh_lines.specs.Lines.{Field}
use Rattle.wh_lines.specs.declared.read_error.ReadError.{ReadError}
use Rattle.wh_lines.specs.declared.read_error.ReadError.TheVariants as errors
use Rattle.wh_lines.specs.Readings.{items_at}

-- The letter that is told, where it isn't before another one.
abbrev pub letter_from : ℕ → Option ℕ → Option ℕ
letter_from least None = None
letter_from least (Some x) = cond (leb least x) (Some x) None

-- A set with the letters of rank n that bytes spell. They rise, and none is before the least one.
unfoldable pub set_from : ℕ → ℕ → ℕ → List ℕ → Option ℕ
set_from n set least [] = Some set
set_from n set least (b ∷ bs) = option_and_then (λ x. set_from n (bit_or set (2 ^ x)) (x + 1) bs) (letter_from least (letter_of n b))

-- The swap, or the inversion, of a number.
abbrev pub swap_of : ℕ → Option ℕ → Option Kind
swap_of n None = None
swap_of n (Some k) = cond (ltb 0 k && ltb k n) (Some (swap k)) None

abbrev pub invert_of : ℕ → Option ℕ → Option Kind
invert_of n None = None
invert_of n (Some k) = cond (ltb 0 k && leb k n) (Some (invert k)) None

-- The cut with a multiplier, where the set holds it and omits its inverse.
abbrev pub cut_with : ℕ → Option ℕ → Option Kind
cut_with a None = None
cut_with a (Some set) = cond (in_set set a && not (in_set set (inverse_letter a))) (Some (cut a set)) None

-- The cut with a multiplier and the letters that bytes spell.
abbrev pub cut_of : ℕ → List ℕ → Option ℕ → Option Kind
cut_of n bs None = None
cut_of n bs (Some a) = cut_with a (set_from n 0 0 bs)

-- The kind of move of rank n that a first byte and the bytes after it tell: a letter, `:` and a set; or `s` or `i` and a number.
abbrev pub kind_from : ℕ → ℕ → List ℕ → Option Kind
kind_from n b [] = None
kind_from n b (d ∷ ds) =
    cond (d == 58) (cut_of n ds (letter_of n b))
    (cond (b == 115) (swap_of n (number (d ∷ ds)))
    (cond (b == 105) (invert_of n (number (d ∷ ds))) None))

-- The kind of move of rank n that the bytes of a field tell.
unfoldable pub kind_in : ℕ → List ℕ → Option Kind
kind_in n [] = None
kind_in n (b ∷ bs) = kind_from n b bs

-- The move of rank n that a kind gives.
abbrev pub move_with : ℕ → Option Kind → Option Move
move_with n None = None
move_with n (Some kind) = Some (record { rank = n; kind = kind })

-- A move in column c of line l, or the refusal of what stands there.
abbrev pub or_bad_move : ℕ → ℕ → Option Move → Result Move ReadError
or_bad_move l c None = Err (errors.BadMove l c)
or_bad_move l c (Some m) = Ok m

-- The move of a field in line l.
abbrev pub move_at : ℕ → ℕ → Field → Result Move ReadError
move_at n l f = or_bad_move l f.column (move_with n (kind_in n f.bytes))

-- The moves of some fields in line l.
abbrev pub moves_at : ℕ → ℕ → List Field → Result (List Move) ReadError
moves_at n l fs = items_at (move_at n l) fs

-- The byte of a letter, where a set holds it.
abbrev pub set_item : ℕ → ℕ → List ℕ
set_item set x = cond (in_set set x) (letter_text x ∷ []) []

-- The letters of a set, rising.
abbrev pub set_text : ℕ → List ℕ
set_text set = below (set_item set) 52

-- The text of a kind of move: `s` or `i` and a number, or a multiplier, `:` and the letters of a set.
abbrev pub kind_text : Kind → List ℕ
kind_text (swap k) = codes "s" ++ decimal k
kind_text (invert k) = codes "i" ++ decimal k
kind_text (cut a set) = letter_text a ∷ codes ":" ++ set_text set

-- The row of a keyword and moves.
abbrev pub moves_row : List ℕ → List Move → Row
moves_row keyword ms = record { keyword = keyword; fields = map (λ m. kind_text m.kind) ms }

-- A move of rank n.
abbrev pub IsMoveOf : ℕ → Move → Type 0
IsMoveOf n m = IsMove m × (m.rank ≡ n)
