-- The tuple after a move: by its kind, and how many letters it has.
use Rattle.std.proofs.Common.{◌≡◌, ℕ, zero, suc, ◌+◌, ◌*◌, ◌<◌, ◌≤◌, List, [], ◌∷◌, length, get_or, map, sym, ap, ◌∙◌, arith}
use Rattle.std.proofs.lemmas.List.{length-map}
use Rattle.std.proofs.lemmas.List.Sums.{sum_by_push, sum_by-cons}
use Rattle.std.specs.List.{sum_by}
use Rattle.wh_words.specs.Limits.{most_letters}
use Rattle.wh_words.specs.CyclicWords.{cyclic_word}
use Rattle.wh_words.specs.Tuples.{TupleData, Tuple, IsTuple, tuple_length, own_room, in_rooms_of}
use Rattle.wh_words.specs.Moves.{Kind, Move}
use Rattle.wh_words.specs.Action.{substitute, act}
use Rattle.wh_words.specs.Images.{swap_letter, invert_letter}
use Rattle.wh_words.specs.Moves.Kind.{swap, invert}
use Rattle.wh_words.proofs.Elements.{total_front}
use Rattle.wh_words.proofs.ActedRows.{acted, acted_more}
use Rattle.wh_words.proofs.Mapped.{swap_image, invert_image}
use Rattle.wh_words.proofs.CutImages.{least_length}
use Rattle.wh_words.proofs.ImageLetters.{image_sum}

-- A move acts by its kind alone.
pub kind_acts : (t : TupleData) (m : Move) (n : ℕ) (k : Kind) → k ≡ m.kind → act t (record { rank = n; kind = k }) ≡ act t m
kind_acts t m n k e = ap (λ (l : Kind). record { rank = t.rank; words = map (λ w. cyclic_word (substitute l w)) t.words }) e

-- ---- lengths
pub length_more : (t : TupleData) (m : Move) (i total : ℕ) (w : List ℕ) → i < length t.words → w ≡ get_or t.words i [] → total ≡ tuple_length (acted t m i) →
    total + length (cyclic_word (substitute m.kind w)) ≡ tuple_length (acted t m (i + 1))
length_more t m i total w h e f =
    omega (arith, f, ap (sum_by length) (acted_more t m i w h e), sum_by_push length (acted t m i).words (cyclic_word (substitute m.kind w)))

pub word_short : (t : TupleData) (i : ℕ) (w : List ℕ) → i < length t.words → w ≡ get_or t.words i [] → tuple_length t ≤ most_letters → length w ≤ most_letters
word_short t i w h e short = omega (arith, ap length e, sum_by_at t.words i h, short)
  where
    sum_by_at : (ws : List (List ℕ)) (k : ℕ) → k < length ws → length (get_or ws k []) ≤ sum_by length ws
    sum_by_at [] k l = absurd (omega arith)
    sum_by_at (v ∷ ws) zero l = omega (arith, sum_by-cons length v ws)
    sum_by_at (v ∷ ws) (suc k) l = omega (arith, sum_by-cons length v ws, sum_by_at ws k (omega arith))

pub acted_few : (t : TupleData) (m : Move) (i : ℕ) → IsTuple t → tuple_length (acted t m i) ≤ 3 * most_letters
acted_few t m i is =
    omega (arith, total_front (λ w. cyclic_word (substitute m.kind w)) t.words i, image_sum m.kind t.words, is.short)

pub swap_length : (k : ℕ) (w : List ℕ) → 0 < k → cyclic_word w ≡ w → length w ≡ length (cyclic_word (substitute (swap k) w))
swap_length k w h e = sym (ap length (swap_image k w h e) ∙ least_length (map (swap_letter k) w) ∙ length-map w (swap_letter k))

pub invert_length : (k : ℕ) (w : List ℕ) → cyclic_word w ≡ w → length w ≡ length (cyclic_word (substitute (invert k) w))
invert_length k w e = sym (ap length (invert_image k w e) ∙ least_length (map (invert_letter k) w) ∙ length-map w (invert_letter k))

pub act_own : (t : TupleData) (m : Move) (start made : Tuple) → made ≡ in_rooms_of start (act t m) → start.room ≡ tuple_length (act t m) → start.word_room ≡ length t.words → made ≡ own_room (act t m)
act_own t m start made e r w =
    e ∙ ap (λ (n : ℕ). record { plain = act t m; room = n; word_room = start.word_room }) r
    ∙ ap (λ (n : ℕ). record { plain = act t m; room = tuple_length (act t m); word_room = n }) (w ∙ sym (length-map t.words (λ v. cyclic_word (substitute m.kind v))))
