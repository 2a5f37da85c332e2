-- The tuple after a move, written word by word.
use Rattle.std.proofs.Common.{◌≡◌, ℕ, ◌+◌, ◌<◌, ◌≤◌, List, [], ◌∷◌, ◌++◌, length, get_or, take, map, sym, ap, ◌∙◌, arith, length-take}
use Rattle.std.proofs.lemmas.List.{map_more, length-map}
use Rattle.std.proofs.lemmas.List.Sums.{sum_by_push}
use Rattle.std.specs.List.{sum_by}
use Rattle.wh_words.specs.CyclicWords.{cyclic_word}
use Rattle.wh_words.specs.Tuples.{TupleData, Tuple, tuple_length, with_word, in_rooms_of}
use Rattle.wh_words.specs.Moves.{Move}
use Rattle.wh_words.specs.Action.{substitute, act}
use Rattle.wh_words.proofs.Elements.{total_front}

-- the words written so far
abbrev pub acted : TupleData → Move → ℕ → TupleData
acted t m i = record { rank = m.rank; words = map (λ w. cyclic_word (substitute m.kind w)) (take i t.words) }

pub acted_more : (t : TupleData) (m : Move) (i : ℕ) (w : List ℕ) → i < length t.words → w ≡ get_or t.words i [] →
    (acted t m (i + 1)).words ≡ (acted t m i).words ++ cyclic_word (substitute m.kind w) ∷ []
acted_more t m i w h e =
    map_more (λ v. cyclic_word (substitute m.kind v)) t.words i [] h
    ∙ ap (λ v. (acted t m i).words ++ cyclic_word (substitute m.kind v) ∷ []) (sym e)

pub image_fits : (t : TupleData) (m : Move) (into start : Tuple) (i : ℕ) (w : List ℕ) → i < length t.words → w ≡ get_or t.words i [] →
    tuple_length (act t m) ≤ start.room → into ≡ in_rooms_of start (acted t m i) →
    tuple_length into.plain + length (cyclic_word (substitute m.kind w)) ≤ into.room
image_fits t m into start i w h e fits is =
    omega (
      arith,
      ap (λ (u : Tuple). tuple_length u.plain) is,
      ap (λ (u : Tuple). u.room) is,
      fits,
      ap (sum_by length) (acted_more t m i w h e),
      sum_by_push length (acted t m i).words (cyclic_word (substitute m.kind w)),
      total_front (λ v. cyclic_word (substitute m.kind v)) t.words (i + 1),
    )

pub image_place : (t : TupleData) (m : Move) (into start : Tuple) (i : ℕ) → i < length t.words →
    length t.words ≤ start.word_room → into ≡ in_rooms_of start (acted t m i) → length into.plain.words < into.word_room
image_place t m into start i h fits is =
    omega (
      arith,
      ap (λ (u : Tuple). length u.plain.words) is,
      ap (λ (u : Tuple). u.word_room) is,
      fits,
      h,
      length-map (take i t.words) (λ v. cyclic_word (substitute m.kind v)),
      length-take i t.words,
    )

pub image_more : (t : TupleData) (m : Move) (into new start : Tuple) (i : ℕ) (w : List ℕ) → i < length t.words → w ≡ get_or t.words i [] →
    into ≡ in_rooms_of start (acted t m i) → new ≡ with_word into (cyclic_word (substitute m.kind w)) → new ≡ in_rooms_of start (acted t m (i + 1))
image_more t m into new start i w h e is n =
    n ∙ ap (λ (u : Tuple). with_word u (cyclic_word (substitute m.kind w))) is
    ∙ ap (λ (ws : List (List ℕ)). in_rooms_of start (record { rank = m.rank; words = ws })) (sym (acted_more t m i w h e))
