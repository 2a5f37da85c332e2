-- Words that are written into a row.
use Rattle.std.proofs.Common.{◌≡◌, ℕ, ◌+◌, ◌-◌, ◌<◌, ◌≤◌, List, [], ◌∷◌, ◌++◌, length, take, drop, refl, sym, ap, ◌∙◌, subst, arith, length-append, length-take, length-drop}
use Rattle.std.proofs.Math.Seq.{take-append-add}
use Rattle.std.proofs.lemmas.List.{drop_at, take_at, drop-take, take-take}
use Rattle.std.proofs.lemmas.List.Elements.{All-nil, All-cons, All-append}
use Rattle.std.proofs.lemmas.List.Sums.{sum_by_push}
use Rattle.wh_words.specs.CyclicWords.{cyclic_word, least_rotation}
use Rattle.wh_words.specs.Tuples.{Tuple, IsTuple, IsRoomed, tuple_length, with_word}
use Rattle.wh_words.specs.Words.{IsOfRank}
use Rattle.wh_words.specs.Storage.{split_at, EndsRise, tuple_of, IsStored}
use Rattle.wh_words.proofs.StoredWords.{split_at-push, split_at_total, split_at_length, ends_rise-push}
use Rattle.wh_words.proofs.CutImages.{least_length}

-- the row after the letters from s on were turned to their least rotation, and its end was written
pub end_split : (es xs : List ℕ) (s : ℕ) → EndsRise 0 es s → s ≤ length xs →
    split_at 0 (es ++ length xs ∷ []) (take s xs ++ least_rotation (drop s xs)) ≡ split_at 0 es (take s xs) ++ least_rotation (drop s xs) ∷ []
end_split es xs s l h =
    let front : length (take s xs) ≡ s = omega (arith, length-take s xs, h) in
    let back : length (least_rotation (drop s xs)) ≡ length xs - s = least_length (drop s xs) ∙ length-drop s xs in
    let whole : length xs ≡ length (take s xs) + length (least_rotation (drop s xs)) = omega (arith, front, back) in
    ap (λ n. split_at 0 (es ++ n ∷ []) (take s xs ++ least_rotation (drop s xs))) whole
    ∙ split_at-push 0 es (take s xs) (least_rotation (drop s xs)) (subst (EndsRise 0 es) (sym front) l)

-- a word in the middle of a row that is turned to its least rotation
pub turned_between : (xs new rest : List ℕ) (start end : ℕ) → start ≤ end → end ≤ length xs → new ≡ least_rotation (take (end - start) (drop start xs)) →
    take end (take start xs ++ (new ++ rest)) ≡ take start (take end xs) ++ least_rotation (drop start (take end xs))
turned_between xs new rest start end h l e =
    let whole : start + (end - start) ≡ end = omega arith in
    let front : length (take start xs) ≡ start = omega (arith, length-take start xs) in
    let middle : length new ≡ end - start = ap length e ∙ least_length (take (end - start) (drop start xs)) ∙ omega (arith, length-take (end - start) (drop start xs), length-drop start xs) in
    let both : length (take start xs) + length new ≡ end = omega (arith, front, middle, whole) in
    ap (λ n. take n (take start xs ++ (new ++ rest))) (sym both)
    ∙ take-append-add (take start xs) (new ++ rest) (length new)
    ∙ ap (λ v. take start xs ++ v) (take_at new rest (length new) refl ∙ e)
    ∙ ap (λ v. take start xs ++ least_rotation v) (sym (ap (λ n. drop start (take n xs)) (sym whole) ∙ drop-take start (end - start) xs))
    ∙ ap (λ v. v ++ least_rotation (drop start (take end xs))) (sym (take-take start end xs h))

pub end_length : (xs : List ℕ) (s : ℕ) → s ≤ length xs → length (take s xs ++ least_rotation (drop s xs)) ≡ length xs
end_length xs s h = omega (arith, length-append (take s xs) (least_rotation (drop s xs)), least_length (drop s xs), length-drop s xs, length-take s xs, h)

pub empty_tuple : (n : ℕ) → IsTuple (record { rank = n; words = [] })
empty_tuple n = record {
  cyclic = All-nil (λ w. cyclic_word w ≡ w);
  of_rank = All-nil (IsOfRank n);
  few = omega arith;
  short = omega arith;
}

-- the row with one more word
pub row_push : (n : ℕ) (es xs : List ℕ) (room word_room held held_words : ℕ) (w : List ℕ) → IsStored n es xs room word_room held held_words →
    cyclic_word w ≡ w → IsOfRank n w → length xs + length w ≤ room → length es < word_room →
    IsStored n (es ++ (length xs + length w) ∷ []) (xs ++ w) room word_room held held_words
row_push n es xs room word_room held held_words w r own of_rank fits place =
    let t : Tuple = tuple_of n es xs room word_room in
    let e : split_at 0 (es ++ (length xs + length w) ∷ []) (xs ++ w) ≡ split_at 0 es xs ++ w ∷ [] = split_at-push 0 es xs w r.laid in
    let total : tuple_length t.plain ≡ length xs = split_at_total es xs r.laid in
    let count : length t.plain.words ≡ length es = split_at_length 0 es xs in
    let more : tuple_length (with_word t w).plain ≡ tuple_length t.plain + length w = sum_by_push length t.plain.words w in
    record {
      roomed = subst (λ (ws : List (List ℕ)). IsRoomed (record { plain = record { rank = n; words = ws }; room = room; word_room = word_room })) (sym e)
          (record {
            tuple = record {
              cyclic = All-append (λ v. cyclic_word v ≡ v) t.plain.words (w ∷ []) r.roomed.tuple.cyclic (All-cons (λ v. cyclic_word v ≡ v) w [] own (All-nil (λ v. cyclic_word v ≡ v)));
              of_rank = All-append (IsOfRank n) t.plain.words (w ∷ []) r.roomed.tuple.of_rank (All-cons (IsOfRank n) w [] of_rank (All-nil (IsOfRank n)));
              few = omega (arith, length-append t.plain.words (w ∷ []), count, place, r.roomed.words_within);
              short = omega (arith, more, total, fits, r.roomed.letters_within);
            };
            letters = omega (arith, more, total, fits);
            words = omega (arith, length-append t.plain.words (w ∷ []), count, place);
            letters_within = r.roomed.letters_within;
            words_within = r.roomed.words_within;
          });
      laid = subst (EndsRise 0 (es ++ (length xs + length w) ∷ [])) (sym (length-append xs w)) (ends_rise-push 0 es (length xs) (length xs + length w) r.laid (omega arith));
      held = r.held;
      held_words = r.held_words;
    }

pub letter_fits : (t : Tuple) (n : ℕ) (es xs : List ℕ) (room word_room most most_words k : ℕ) → tuple_of n es xs room word_room ≡ t → IsStored n es xs room word_room most most_words →
    tuple_length t.plain + k ≤ t.room → length xs + k ≤ room
letter_fits t n es xs room word_room most most_words k e r h = omega (arith, split_at_total es xs r.laid, ap (λ (u : Tuple). tuple_length u.plain) e, ap (λ (u : Tuple). u.room) e, h)

pub place_fits : (t : Tuple) (n : ℕ) (es xs : List ℕ) (room word_room most most_words : ℕ) → tuple_of n es xs room word_room ≡ t → IsStored n es xs room word_room most most_words →
    length t.plain.words < t.word_room → length es < word_room
place_fits t n es xs room word_room most most_words e r h = omega (arith, split_at_length 0 es xs, ap (λ (u : Tuple). length u.plain.words) e, ap (λ (u : Tuple). u.word_room) e, h)

-- what stands in the row after a word was written and ended
pub word_written : (xs p w out new : List ℕ) (s : ℕ) → s ≡ length xs → out ≡ xs ++ p → new ≡ take s out ++ least_rotation (drop s out) → w ≡ least_rotation p → new ≡ xs ++ w
word_written xs p w out new s e o n l =
    n ∙ ap (λ i. take i out ++ least_rotation (drop i out)) e
    ∙ ap (λ v. take (length xs) v ++ least_rotation (drop (length xs) v)) o
    ∙ ap (λ v. v ++ least_rotation (drop (length xs) (xs ++ p))) (take_at xs p (length xs) refl)
    ∙ ap (λ v. xs ++ least_rotation v) (drop_at xs p (length xs) refl)
    ∙ ap (λ v. xs ++ v) (sym l)

pub end_written : (xs p w out es ends : List ℕ) → out ≡ xs ++ p → w ≡ least_rotation p → ends ≡ es ++ length out ∷ [] → ends ≡ es ++ (length xs + length w) ∷ []
end_written xs p w out es ends o l e =
    let n : length out ≡ length xs + length w = omega (arith, ap length o, length-append xs p, ap length l, least_length p) in
    e ∙ ap (λ i. es ++ i ∷ []) n

pub row_same : (n : ℕ) (es xs es2 xs2 : List ℕ) (room word_room m mw m2 mw2 : ℕ) → IsStored n es xs room word_room m mw → es2 ≡ es → xs2 ≡ xs → m2 ≡ m → mw2 ≡ mw → IsStored n es2 xs2 room word_room m2 mw2
row_same n es xs es2 xs2 room word_room m mw m2 mw2 r a b c d =
    subst (λ (e : List ℕ). IsStored n e xs2 room word_room m2 mw2) (sym a)
    (subst (λ (x : List ℕ). IsStored n es x room word_room m2 mw2) (sym b)
    (subst (λ (k : ℕ). IsStored n es xs room word_room k mw2) (sym c)
    (subst (λ (k : ℕ). IsStored n es xs room word_room m k) (sym d) r)))

pub row_view : (n : ℕ) (es xs es2 xs2 w : List ℕ) (room word_room : ℕ) (t : Tuple) → EndsRise 0 es (length xs) → tuple_of n es xs room word_room ≡ t →
    es2 ≡ es ++ (length xs + length w) ∷ [] → xs2 ≡ xs ++ w → tuple_of n es2 xs2 room word_room ≡ with_word t w
row_view n es xs es2 xs2 w room word_room t l e a b =
    ap (λ (v : List ℕ). tuple_of n v xs2 room word_room) a
    ∙ ap (λ (v : List ℕ). tuple_of n (es ++ (length xs + length w) ∷ []) v room word_room) b
    ∙ ap (λ (ws : List (List ℕ)). record { plain = record { rank = n; words = ws }; room = room; word_room = word_room }) (split_at-push 0 es xs w l)
    ∙ ap (λ (u : Tuple). with_word u w) e
