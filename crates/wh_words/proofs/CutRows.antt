-- The images of all words of a row under a cut, written one after the other.
use Rattle.std.proofs.Common.{◌≡◌, ℕ, ◌+◌, ◌<◌, ◌≤◌, List, [], ◌∷◌, ◌++◌, length, get_or, take, drop, map, refl, sym, ap, ◌∙◌, subst, arith, length-take}
use Rattle.std.proofs.lemmas.List.{map_more, length-map, take_at, take_all}
use Rattle.std.proofs.lemmas.List.Elements.{All-get_or}
use Rattle.std.proofs.lemmas.List.Sums.{sum_by_push}
use Rattle.std.specs.Int.{bit_at}
use Rattle.std.specs.List.{All, sum_by, refill}
use Rattle.wh_words.specs.Limits.{most_words, most_letters}
use Rattle.wh_words.specs.Letters.{inverse_letter}
use Rattle.wh_words.specs.LetterSets.{in_set}
use Rattle.wh_words.specs.CyclicWords.{cyclic_word, least_rotation}
use Rattle.wh_words.specs.Passes.{round_pass}
use Rattle.wh_words.specs.Action.{act, substitute}
use Rattle.wh_words.specs.Moves.{IsCut, cut_move}
use Rattle.wh_words.specs.Moves.Kind.{cut}
use Rattle.wh_words.specs.Tuples.{TupleData, IsTuple, IsRoomed, tuple_length}
use Rattle.wh_words.specs.Storage.{split_at, EndsRise, IsStored, AreWritten}
use Rattle.wh_words.proofs.Elements.{total_front}
use Rattle.wh_words.proofs.CutImages.{cut_image}
use Rattle.wh_words.proofs.ImageLetters.{acted_tuple}
use Rattle.wh_words.proofs.StoredWords.{split_at-push, split_at_length, ends_rise-push}
use Rattle.wh_words.proofs.Storing.{word_written}

abbrev pub cut_word : ℕ → ℕ → List ℕ → List ℕ
cut_word a set w = cyclic_word (substitute (cut a set) w)

-- ---- one word
pub cut_written : (a set at end : ℕ) (w old mid new : List ℕ) → bit_at set a ≡ 1 → bit_at set (inverse_letter a) ≡ 0 → cyclic_word w ≡ w → at ≤ length old →
    take end mid ≡ take at old ++ round_pass a (in_set set) w → take end new ≡ take at (take end mid) ++ least_rotation (drop at (take end mid)) →
    take end new ≡ take at old ++ cut_word a set w
cut_written a set at end w old mid new h o e l p t =
    word_written (take at old) (round_pass a (in_set set) w) (cut_word a set w) (take end mid) (take end new) at (omega (arith, length-take at old)) p t (cut_image a set w h o e)

-- ---- all words
pub word_own : (ends letters w : List ℕ) (k : ℕ) → k < length ends → w ≡ get_or (split_at 0 ends letters) k [] → All (λ v. cyclic_word v ≡ v) (split_at 0 ends letters) → cyclic_word w ≡ w
word_own ends letters w k h e own =
    subst (λ (v : List ℕ). cyclic_word v ≡ v) (sym e) (All-get_or (λ v. cyclic_word v ≡ v) (split_at 0 ends letters) k [] (omega (arith, h, split_at_length 0 ends letters)) own)

pub images_start : (a set : ℕ) (ends letters marks out : List ℕ) → 0 < length out → AreWritten a set ends letters 0 0 marks out
images_start a set ends letters marks out h = record { within = h; words = refl; laid = refl; total = refl }

pub images_sum : (a set : ℕ) (ends letters marks out w : List ℕ) (k at : ℕ) → AreWritten a set ends letters k at marks out → k < length ends → w ≡ get_or (split_at 0 ends letters) k [] →
    at + length (cut_word a set w) ≤ sum_by length (map (cut_word a set) (split_at 0 ends letters))
images_sum a set ends letters marks out w k at is h e =
    let ws : List (List ℕ) = split_at 0 ends letters in
    omega (
      arith,
      is.total,
      ap (λ v. length (cut_word a set v)) e,
      ap (sum_by length) (map_more (cut_word a set) ws k [] (omega (arith, h, split_at_length 0 ends letters))),
      sum_by_push length (map (cut_word a set) (take k ws)) (cut_word a set (get_or ws k [])),
      total_front (cut_word a set) ws (k + 1),
    )

pub images_fit : (a set : ℕ) (ends letters marks out w : List ℕ) (k at : ℕ) → AreWritten a set ends letters k at marks out → k < length ends → w ≡ get_or (split_at 0 ends letters) k [] →
    sum_by length (map (cut_word a set) (split_at 0 ends letters)) < length out → at + length (cut_word a set w) < length out
images_fit a set ends letters marks out w k at is h e room = omega (arith, images_sum a set ends letters marks out w k at is h e, room)

pub images_more : (a set : ℕ) (ends letters marks out marks2 out2 w : List ℕ) (k at next : ℕ) → AreWritten a set ends letters k at marks out → k < length ends → w ≡ get_or (split_at 0 ends letters) k [] →
    take next out2 ≡ take at out ++ cut_word a set w → next ≡ at + length (cut_word a set w) → next < length out2 → take (k + 1) marks2 ≡ take k marks ++ next ∷ [] →
    AreWritten a set ends letters (k + 1) next marks2 out2
images_more a set ends letters marks out marks2 out2 w k at next is h e o n l m =
    let ws : List (List ℕ) = split_at 0 ends letters in
    let image : List ℕ = cut_word a set w in
    let within : k < length ws = omega (arith, h, split_at_length 0 ends letters) in
    let front : length (take at out) ≡ at = omega (arith, length-take at out, is.within) in
    let end : next ≡ length (take at out) + length image = omega (arith, n, front) in
    let more : map (cut_word a set) (take (k + 1) ws) ≡ map (cut_word a set) (take k ws) ++ image ∷ [] =
    map_more (cut_word a set) ws k [] within ∙ ap (λ v. map (cut_word a set) (take k ws) ++ cut_word a set v ∷ []) (sym e) in
    record {
      within = l;
      words = ap (λ v. split_at 0 v (take next out2)) m
          ∙ ap (split_at 0 (take k marks ++ next ∷ [])) o
          ∙ ap (λ i. split_at 0 (take k marks ++ i ∷ []) (take at out ++ image)) end
          ∙ split_at-push 0 (take k marks) (take at out) image (subst (EndsRise 0 (take k marks)) (sym front) is.laid)
          ∙ ap (λ v. v ++ image ∷ []) is.words
          ∙ sym more;
      laid = subst (λ (v : List ℕ). EndsRise 0 v next) (sym m) (ends_rise-push 0 (take k marks) at next is.laid (omega (arith, n)));
      total = omega (arith, is.total, n, ap (sum_by length) more, sum_by_push length (map (cut_word a set) (take k ws)) image);
    }

-- ---- the tuple
pub cut_row : (n a set : ℕ) (es xs es2 xs2 : List ℕ) (room word_room held held_words : ℕ) → IsTuple (record { rank = n; words = split_at 0 es xs }) → IsCut n a set →
    split_at 0 es2 xs2 ≡ map (cut_word a set) (split_at 0 es xs) → EndsRise 0 es2 (length xs2) →
    tuple_length (act (record { rank = n; words = split_at 0 es xs }) (cut_move n a set)) ≤ room → length (split_at 0 es xs) ≤ word_room → room ≤ most_letters → word_room ≤ most_words → room ≤ held → word_room ≤ held_words →
    IsStored n es2 xs2 room word_room held held_words
cut_row n a set es xs es2 xs2 room word_room held held_words is c e laid fits few most most_words h hw =
    let d : TupleData = record { rank = n; words = split_at 0 es xs } in
    record {
      roomed = subst (λ (ws : List (List ℕ)). IsRoomed (record { plain = record { rank = n; words = ws }; room = room; word_room = word_room })) (sym e)
          (record {
            tuple = acted_tuple d (cut_move n a set) is c refl (omega (arith, fits, most));
            letters = fits;
            words = omega (arith, few, length-map (split_at 0 es xs) (cut_word a set));
            letters_within = most;
            words_within = most_words;
          });
      laid = laid;
      held = h;
      held_words = hw;
    }

pub refill_same : (n : ℕ) (xs ws : List ℕ) → length ws ≡ n → refill n xs ws ≡ ws
refill_same n xs ws h = take_at ws (drop (length ws) xs) n h

pub all_written : (a set at : ℕ) (ends letters marks out marks2 out2 : List ℕ) → AreWritten a set ends letters (length ends) at marks2 out2 → marks ≡ marks2 → out ≡ out2 →
    split_at 0 (take (length ends) marks) (take at out) ≡ map (cut_word a set) (split_at 0 ends letters)
all_written a set at ends letters marks out marks2 out2 is m o =
    ap (λ v. split_at 0 (take (length ends) v) (take at out)) m
    ∙ ap (λ v. split_at 0 (take (length ends) marks2) (take at v)) o
    ∙ is.words
    ∙ ap (map (cut_word a set)) (take_all (length ends) (split_at 0 ends letters) (omega (arith, split_at_length 0 ends letters)))
