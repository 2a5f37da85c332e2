-- The images of all generators, move by move.
use Rattle.std.proofs.Common.{◌≡◌, ℕ, zero, suc, ◌+◌, ◌*◌, ◌<◌, ◌≤◌, List, [], ◌∷◌, ◌++◌, length, map, get_or, take, refl, sym, ap, ap₂, ◌∙◌, subst, inl, inr, arith}
use Rattle.std.proofs.lemmas.Bool.{cases_lt}
use Rattle.std.proofs.lemmas.List.{take_more, map-append, flat_map_more}
use Rattle.std.proofs.lemmas.List.Sums.{sum_by-cons, sum_by_push}
use Rattle.wh_words.specs.Words.{free_reduction}
use Rattle.wh_words.specs.Moves.{Kind, IsKind, Move, IsMove}
use Rattle.wh_words.specs.Images.{image}
use Rattle.wh_words.specs.Action.{substitute}
use Rattle.wh_words.specs.Composites.{substitute_all, composite_below, composite}
use Rattle.wh_words.proofs.FreeReduction.{remains_there, free_reduction-length}
use Rattle.wh_words.proofs.ImageLetters.{substitute_length}
use Rattle.wh_composites.specs.Limits.{most_image_letters}
use Rattle.wh_composites.specs.Composing.{letter_count, ComposesUpTo, IsFirstTooLong}
use Rattle.wh_moves.proofs.Substitutions.{deleted}
use Rattle.wh_moves.proofs.InverseMoves.{image_cancels}

-- ---- one word
pub substitute_more : (k : Kind) (letters more w : List ℕ) (i x : ℕ) → i < length w → x ≡ get_or w i x → letters ≡ substitute k (take i w) → more ≡ image k x → letters ++ more ≡ substitute k (take (i + 1) w)
substitute_more k letters more w i x h e l m =
    ap₂ (λ u v. u ++ v) l m ∙ (flat_map_more (image k) [] (take i w) x ∙ ap (substitute k) (ap (λ z. take i w ++ z ∷ []) e ∙ sym (take_more w i x h)))

-- Reducing before an image is taken changes nothing.
pub image_reduced : (n : ℕ) (k : Kind) (w : List ℕ) → IsKind n k → free_reduction (substitute k (free_reduction w)) ≡ free_reduction (substitute k w)
image_reduced n k w h = sym (deleted (image k) (image_cancels n k h) (remains_there w))

-- ---- all images
abbrev pub after_move : Kind → List (List ℕ) → List (List ℕ)
after_move k ws = map (λ w. free_reduction (substitute k w)) ws

substitute_all-push : (ms : List Move) (m : Move) (w : List ℕ) → substitute_all (ms ++ m ∷ []) w ≡ substitute m.kind (substitute_all ms w)
substitute_all-push [] m w = refl
substitute_all-push (j ∷ ms) m w = substitute_all-push ms m (substitute j.kind w)

composite-push : (g : ℕ) (ms : List Move) (m : Move) → IsMove m → after_move m.kind (composite_below g ms) ≡ composite_below g (ms ++ m ∷ [])
composite-push zero ms m h = refl
composite-push (suc g) ms m h =
    map-append (λ w. free_reduction (substitute m.kind w)) (composite_below g ms) (free_reduction (substitute_all ms (2 * g ∷ [])) ∷ [])
    ∙ ap₂ (λ (us : List (List ℕ)) (v : List ℕ). us ++ v ∷ []) (composite-push g ms m h)
    (image_reduced m.rank m.kind (substitute_all ms (2 * g ∷ [])) h.kind ∙ ap free_reduction (sym (substitute_all-push ms m (2 * g ∷ []))))

after_move-letters : (k : Kind) (ws : List (List ℕ)) → letter_count (after_move k ws) ≤ 3 * letter_count ws
after_move-letters k [] = omega arith
after_move-letters k (w ∷ ws) = omega (arith, free_reduction-length (substitute k w), substitute_length k w, after_move-letters k ws, sum_by-cons length w ws, sum_by-cons length (free_reduction (substitute k w)) (after_move k ws))

-- After i moves: the images are those that they give, and none so far had too many letters.
pub record AreComposed (n : ℕ) (ms : List Move) (i : ℕ) (images : List (List ℕ)) : Type 0 where
  pub composed : images ≡ composite n (take i ms)
  pub fits : (k : ℕ) → k ≤ i → ComposesUpTo n ms k

composite-none : (n : ℕ) → n ≤ 26 → letter_count (composite_below n []) ≤ most_image_letters
composite-none n l = omega (arith, counted n)
  where
    counted : (g : ℕ) → letter_count (composite_below g []) ≡ g
    counted zero = refl
    counted (suc g) = sum_by_push length (composite_below g []) (2 * g ∷ []) ∙ omega (arith, counted g)

pub composed_start : (n : ℕ) (ms : List Move) (images : List (List ℕ)) → n ≤ 26 → images ≡ composite n [] → AreComposed n ms 0 images
composed_start n ms images l e = record {
  composed = e;
  fits = λ k le. (let none : 0 ≡ k = omega (arith, le) in subst (λ (j : ℕ). letter_count (composite n (take j ms)) ≤ most_image_letters) none (composite-none n l));
}

composed_more : (n : ℕ) (ms : List Move) (i : ℕ) (images : List (List ℕ)) (m : Move) → AreComposed n ms i images → i < length ms → m ≡ get_or ms i m → IsMove m →
    after_move m.kind images ≡ composite n (take (i + 1) ms)
composed_more n ms i images m a h e v =
    ap (after_move m.kind) a.composed ∙ (composite-push n (take i ms) m v ∙ ap (composite n) (ap (λ (z : Move). take i ms ++ z ∷ []) e ∙ sym (take_more ms i m h)))

-- The next images aren't far too long.
pub composed_few : (n : ℕ) (ms : List Move) (i : ℕ) (images next : List (List ℕ)) (m : Move) → AreComposed n ms i images → next ≡ after_move m.kind images → letter_count next ≤ 3 * most_image_letters
composed_few n ms i images next m a e = omega (arith, ap letter_count e, after_move-letters m.kind images, ap letter_count a.composed, a.fits i (omega arith))

pub composed_step : (n : ℕ) (ms : List Move) (i : ℕ) (images next : List (List ℕ)) (m : Move) → AreComposed n ms i images → i < length ms → m ≡ get_or ms i m → IsMove m →
    next ≡ after_move m.kind images → letter_count next ≤ most_image_letters → AreComposed n ms (i + 1) next
composed_step n ms i images next m a h e v is short =
    let more : next ≡ composite n (take (i + 1) ms) = is ∙ composed_more n ms i images m a h e v in
    record {
      composed = more;
      fits = λ k l. elim (cases_lt k (i + 1)) [
        | inl b ↦ a.fits k (omega (arith, b))
        | inr b ↦ (let last : i + 1 ≡ k = omega (arith, l, b) in subst (λ (j : ℕ). letter_count (composite n (take j ms)) ≤ most_image_letters) last (omega (arith, short, ap letter_count more)))
      ];
    }

pub composed_fault : (n : ℕ) (ms : List Move) (i count : ℕ) (images next : List (List ℕ)) (m : Move) → AreComposed n ms i images → i < length ms → m ≡ get_or ms i m → IsMove m →
    next ≡ after_move m.kind images → count ≡ letter_count next → most_image_letters < count → IsFirstTooLong n ms (i + 1) count
composed_fault n ms i count images next m a h e v is c long = record {
  within = omega (arith, h);
  letters = c ∙ ap letter_count (is ∙ composed_more n ms i images m a h e v);
  too_long = long;
  first = λ k b. a.fits k (omega (arith, b));
}
