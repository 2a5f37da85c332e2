-- Tuples of cyclic words, after Lyndon and Schupp, I.4.
use Rattle.std.specs.Prelude.{◌≡◌, ℕ, ◌+◌, ◌<◌, ◌≤◌, List, [], ◌∷◌, ◌++◌, length, refl}
use Rattle.std.specs.List.{All, sum_by, concat}
use Rattle.std.specs.Hash.{HashWrites, slice, u8}
use Rattle.std.specs.Coded.{Coded, code_by, coded×, coded_ℕ, coded_list}
use Rattle.std.specs.Ordering.{nat_cmp, ordering_then}
use Rattle.std.specs.Cmp.{IsTotalOrder, on_total, then_total, nat_cmp_total}
use Rattle.std.specs.Cmp.Lexicographic.{slice_cmp, nat_list_cmp_total, lists_total}
use Rattle.std.specs.declared.cmp.Ordering.{Ordering}
use Rattle.wh_words.specs.Limits.{most_words, most_letters}
use Rattle.wh_words.specs.Words.{IsOfRank, word_cmp}
use Rattle.wh_words.specs.CyclicWords.{cyclic_word}

-- A rank and a list of words. All definitions and laws speak of this part of a tuple.
pub record TupleData : Type 0 where
  pub rank : ℕ
  pub words : List (List ℕ)

-- How such data is written as numbers, for rules over shared tuples.
abbrev pub tuple_data_code : Coded TupleData
tuple_data_code =
    code_by (ℕ × List (List ℕ)) (coded× coded_ℕ (coded_list (coded_list coded_ℕ))) (λ t. (t.rank, t.words))
    (λ p. record { rank = p.0; words = p.1 }) (λ _. refl)

-- The length of a tuple: the number of letters of all its words.
abbrev pub tuple_length : TupleData → ℕ
tuple_length t = sum_by length t.words

-- At most 64 cyclic words of the rank with at most 4,096 letters in all.
pub record IsTuple (t : TupleData) : Type 0 where
  pub cyclic : All (λ w. cyclic_word w ≡ w) t.words
  pub of_rank : All (IsOfRank t.rank) t.words
  pub few : length t.words ≤ most_words
  pub short : tuple_length t ≤ most_letters

-- The order of tuples: by rank, then word by word; a proper prefix is smaller.
abbrev pub tuple_cmp : TupleData → TupleData → Ordering
tuple_cmp s t = ordering_then (nat_cmp s.rank t.rank) (slice_cmp word_cmp s.words t.words)

-- ---- tuples with room
-- A tuple as a program holds it: its data, and how many letters and how many words fit in it.
pub record Tuple : Type 0 where
  pub plain : TupleData
  pub room : ℕ
  pub word_room : ℕ

-- The data lies in the rooms, and the rooms are at most 4,096 letters and 64 words.
pub record IsRoomed (t : Tuple) : Type 0 where
  pub tuple : IsTuple t.plain
  pub letters : tuple_length t.plain ≤ t.room
  pub words : length t.plain.words ≤ t.word_room
  pub letters_within : t.room ≤ most_letters
  pub words_within : t.word_room ≤ most_words

-- A tuple with room for itself alone.
abbrev pub own_room : TupleData → Tuple
own_room t = record { plain = t; room = tuple_length t; word_room = length t.words }

-- Other data in the rooms of a tuple.
abbrev pub in_rooms_of : Tuple → TupleData → Tuple
in_rooms_of t d = record { plain = d; room = t.room; word_room = t.word_room }

-- A tuple of rank n without words, in the rooms of a tuple.
abbrev pub without_words : ℕ → Tuple → Tuple
without_words n t = record { plain = record { rank = n; words = [] }; room = t.room; word_room = t.word_room }

-- A tuple with one more word.
abbrev pub with_word : Tuple → List ℕ → Tuple
with_word t w = record { plain = record { rank = t.plain.rank; words = t.plain.words ++ w ∷ [] }; room = t.room; word_room = t.word_room }

-- So many more letters fit.
abbrev pub HasLetterRoom : Tuple → ℕ → Type 0
HasLetterRoom t n = tuple_length t.plain + n ≤ t.room

-- One more word fits.
abbrev pub HasWordRoom : Tuple → Type 0
HasWordRoom t = length t.plain.words < t.word_room

-- Tuples are compared by their data, whatever their rooms are.
abbrev pub tuple_order : Tuple → Tuple → Ordering
tuple_order s t = tuple_cmp s.plain t.plain

pub tuple_order_total : IsTotalOrder tuple_order
tuple_order_total = then_total (on_total (λ (t : Tuple). t.plain.rank) nat_cmp_total) (on_total (λ (t : Tuple). t.plain.words) (lists_total nat_list_cmp_total))

-- What a hasher is fed of a tuple: the letters of all its words in one row.
abbrev pub hash_writes : Tuple → HashWrites
hash_writes t = slice u8 (concat t.plain.words)
