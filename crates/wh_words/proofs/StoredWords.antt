-- Words that lie in a row.
use Rattle.std.proofs.Common.{◌≡◌, ℕ, zero, suc, ◌+◌, ◌-◌, ◌*◌, ◌<◌, ◌≤◌, List, [], ◌∷◌, ◌++◌, length, get_or, take, drop, map, slice_range, refl, sym, ap, ◌∙◌, subst, arith, ◌==◌, length-append, length-drop, length-take}
use Rattle.std.proofs.lemmas.List.{length-map, take_all, drop_all, drop-drop, drop_at, take-append-le, take-append-drop, drop-append-le, take_more, map_more}
use Rattle.std.proofs.lemmas.List.Elements.{All-nil, All-cons, All-head, All-tail, All-append, All-take, All-drop, All-map}
use Rattle.std.proofs.lemmas.List.Sums.{sum_by-cons}
use Rattle.std.proofs.lemmas.Bool.{cond_both}
use Rattle.std.specs.List.{All, sum_by, concat}
use Rattle.wh_words.specs.Words.{put_before, free_reduction, IsOfRank}
use Rattle.wh_words.specs.Letters.{inverse_letter}
use Rattle.wh_words.specs.CyclicWords.{strip_times, cyclic_core, inner, ends_cancel, cyclic_reduction, cyclic_word, rotate, IsLeastRotation}
use Rattle.wh_words.specs.Tuples.{IsTuple}
use Rattle.wh_words.specs.Storage.{split_at, EndsRise, start_at}
use Rattle.wh_words.proofs.FreeReduction.{free_reduction-length}
use Rattle.wh_words.proofs.Turning.{cyclic_core-length}
use Rattle.wh_words.proofs.Rotations.{least_rotation-is, cyclic_word-same}

pub ends_rise-le : (s : ℕ) (es : List ℕ) (n : ℕ) → EndsRise s es n → s ≤ n
ends_rise-le s [] n l = omega (arith, l)
ends_rise-le s (e ∷ es) n l = omega (arith, ends_rise-le e es n l.1, l.0)

pub ends_rise-push : (s : ℕ) (es : List ℕ) (n m : ℕ) → EndsRise s es n → n ≤ m → EndsRise s (es ++ m ∷ []) m
ends_rise-push s [] n m l h = (omega (arith, l), refl)
ends_rise-push s (e ∷ es) n m l h = (l.0, ends_rise-push e es n m l.1 h)

slice_range-front : (xs w : List ℕ) (s e : ℕ) → s ≤ e → e ≤ length xs → slice_range (xs ++ w) s e ≡ slice_range xs s e
slice_range-front xs w s e h k =
    ap (take (e - s)) (drop-append-le s xs w (omega arith))
    ∙ take-append-le (e - s) (drop s xs) w (omega (arith, length-drop s xs))

slice_range-end : (xs w : List ℕ) → slice_range (xs ++ w) (length xs) (length xs + length w) ≡ w
slice_range-end xs w = ap (take (length xs + length w - length xs)) (drop_at xs w (length xs) refl) ∙ take_all (length xs + length w - length xs) w (omega arith)

pub split_at-push : (s : ℕ) (es xs w : List ℕ) → EndsRise s es (length xs) → split_at s (es ++ (length xs + length w) ∷ []) (xs ++ w) ≡ split_at s es xs ++ w ∷ []
split_at-push s [] xs w l = ap (λ i. slice_range (xs ++ w) i (length xs + length w) ∷ []) l ∙ ap (λ v. v ∷ []) (slice_range-end xs w)
split_at-push s (e ∷ es) xs w l =
    ap (λ v. v ∷ split_at e (es ++ (length xs + length w) ∷ []) (xs ++ w)) (slice_range-front xs w s e l.0 (ends_rise-le e es (length xs) l.1))
    ∙ ap (λ vs. slice_range xs s e ∷ vs) (split_at-push e es xs w l.1)

pub split_at_length : (s : ℕ) (es xs : List ℕ) → length (split_at s es xs) ≡ length es
split_at_length s [] xs = refl
split_at_length s (e ∷ es) xs = ap suc (split_at_length e es xs)

pub start_more : (s : ℕ) (es : List ℕ) (k : ℕ) → 0 < k → start_at s es k ≡ get_or es (k - 1) 0
start_more s es zero h = absurd (omega arith)
start_more s es (suc k) h = ap (λ i. get_or es i 0) (omega arith)

pub split_at_get : (s : ℕ) (es xs : List ℕ) (k : ℕ) → k < length es → get_or (split_at s es xs) k [] ≡ slice_range xs (start_at s es k) (get_or es k 0)
split_at_get s [] xs k h = absurd (omega arith)
split_at_get s (e ∷ es) xs zero h = refl
split_at_get s (e ∷ es) xs (suc zero) h = split_at_get e es xs zero (omega arith)
split_at_get s (e ∷ es) xs (suc (suc k)) h = split_at_get e es xs (suc k) (omega arith)

pub ends_rise_at : (s : ℕ) (es : List ℕ) (n k : ℕ) → EndsRise s es n → k < length es → (start_at s es k ≤ get_or es k 0) × (get_or es k 0 ≤ n)
ends_rise_at s [] n k l h = absurd (omega arith)
ends_rise_at s (e ∷ es) n zero l h = (l.0, ends_rise-le e es n l.1)
ends_rise_at s (e ∷ es) n (suc zero) l h = ends_rise_at e es n zero l.1 (omega arith)
ends_rise_at s (e ∷ es) n (suc (suc k)) l h = ends_rise_at e es n (suc k) l.1 (omega arith)

pub range-length : (xs : List ℕ) (s e : ℕ) → s ≤ e → e ≤ length xs → length (slice_range xs s e) ≡ e - s
range-length xs s e h k = omega (arith, length-take (e - s) (drop s xs), length-drop s xs)

pub split_at-sum : (s : ℕ) (es xs : List ℕ) → EndsRise s es (length xs) → sum_by length (split_at s es xs) + s ≡ length xs
split_at-sum s [] xs l = omega (arith, l)
split_at-sum s (e ∷ es) xs l =
    let cut : length (slice_range xs s e) ≡ e - s = range-length xs s e l.0 (ends_rise-le e es (length xs) l.1) in
    omega (arith, sum_by-cons length (slice_range xs s e) (split_at e es xs), cut, split_at-sum e es xs l.1, l.0)

pub split_at_total : (es xs : List ℕ) → EndsRise 0 es (length xs) → sum_by length (split_at 0 es xs) ≡ length xs
split_at_total es xs l = omega (arith, split_at-sum 0 es xs l)

range-rest : (xs : List ℕ) (s e : ℕ) → s ≤ e → slice_range xs s e ++ drop e xs ≡ drop s xs
range-rest xs s e h =
    let whole : s + (e - s) ≡ e = omega arith in
    ap (λ n. slice_range xs s e ++ drop n xs) (sym whole) ∙ ap (λ v. slice_range xs s e ++ v) (sym (drop-drop (e - s) s xs)) ∙ take-append-drop (e - s) (drop s xs)

split_at-concat : (s : ℕ) (es xs : List ℕ) → EndsRise s es (length xs) → concat (split_at s es xs) ≡ drop s xs
split_at-concat s [] xs l = sym (drop_all s xs (omega (arith, l)))
split_at-concat s (e ∷ es) xs l = ap (λ v. slice_range xs s e ++ v) (split_at-concat e es xs l.1) ∙ range-rest xs s e l.0

-- The words together are the letters.
pub split_at_concat : (es xs : List ℕ) → EndsRise 0 es (length xs) → concat (split_at 0 es xs) ≡ xs
split_at_concat es xs l = split_at-concat 0 es xs l

-- ---- a cyclic word has letters of its word alone
put_before-of_rank : (n x : ℕ) (w : List ℕ) → x < 2 * n → IsOfRank n w → IsOfRank n (put_before x w)
put_before-of_rank n x [] h r = All-cons (λ y. y < 2 * n) x [] h (All-nil (λ y. y < 2 * n))
put_before-of_rank n x (y ∷ w) h r =
    cond_both (y == inverse_letter x) w (x ∷ y ∷ w) (IsOfRank n)
    (λ e. All-tail (λ z. z < 2 * n) y w r)
    (λ e. All-cons (λ z. z < 2 * n) x (y ∷ w) h r)

pub free_reduction-of_rank : (n : ℕ) (w : List ℕ) → IsOfRank n w → IsOfRank n (free_reduction w)
free_reduction-of_rank n [] r = r
free_reduction-of_rank n (x ∷ w) r = put_before-of_rank n x (free_reduction w) (All-head (λ z. z < 2 * n) x w r) (free_reduction-of_rank n w (All-tail (λ z. z < 2 * n) x w r))

strip_times-of_rank : (n k : ℕ) (w : List ℕ) → IsOfRank n w → IsOfRank n (strip_times k w)
strip_times-of_rank n zero w r = r
strip_times-of_rank n (suc k) w r =
    cond_both (ends_cancel w) (strip_times k (inner w)) w (IsOfRank n)
    (λ e. strip_times-of_rank n k (inner w) (All-take (λ z. z < 2 * n) (length w - 1 - 1) (drop 1 w) (All-drop (λ z. z < 2 * n) 1 w r)))
    (λ e. r)

pub cyclic_core-of_rank : (n : ℕ) (w : List ℕ) → IsOfRank n w → IsOfRank n (cyclic_core w)
unfolding cyclic_core
cyclic_core-of_rank n w r = strip_times-of_rank n (length w) w r

rotate-of_rank : (n k : ℕ) (w : List ℕ) → IsOfRank n w → IsOfRank n (rotate k w)
rotate-of_rank n k w r = All-append (λ z. z < 2 * n) (drop k w) (take k w) (All-drop (λ z. z < 2 * n) k w r) (All-take (λ z. z < 2 * n) k w r)

pub cyclic_word-of_rank : (n : ℕ) (w : List ℕ) → IsOfRank n w → IsOfRank n (cyclic_word w)
cyclic_word-of_rank n w r =
    let least : IsLeastRotation (cyclic_reduction w) (cyclic_word w) = least_rotation-is (cyclic_reduction w) in
    subst (IsOfRank n) (sym least.there.2) (rotate-of_rank n least.there.0 (cyclic_reduction w) (cyclic_core-of_rank n (free_reduction w) (free_reduction-of_rank n w r)))

pub rotate-length : (k : ℕ) (w : List ℕ) → length (rotate k w) ≡ length w
rotate-length k w = omega (arith, length-append (drop k w) (take k w), length-drop k w, length-take k w)

pub cyclic_word-length : (w : List ℕ) → length (cyclic_word w) ≤ length w
cyclic_word-length w =
    let least : IsLeastRotation (cyclic_reduction w) (cyclic_word w) = least_rotation-is (cyclic_reduction w) in
    omega (arith, ap length least.there.2, rotate-length least.there.0 (cyclic_reduction w), cyclic_core-length (free_reduction w), free_reduction-length w)

sum-cyclic : (ws : List (List ℕ)) → sum_by length (map cyclic_word ws) ≤ sum_by length ws
sum-cyclic [] = omega arith
sum-cyclic (w ∷ ws) = omega (arith, sum_by-cons length (cyclic_word w) (map cyclic_word ws), sum_by-cons length w ws, cyclic_word-length w, sum-cyclic ws)

-- the tuple of the cyclic words of such words is one
pub IsTuple-of : (n : ℕ) (ws : List (List ℕ)) → All (IsOfRank n) ws → length ws ≤ 64 → sum_by length ws ≤ 4096 → IsTuple (record { rank = n; words = map cyclic_word ws })
IsTuple-of n ws r few short = record {
  cyclic = All-map (λ w. cyclic_word w ≡ w) cyclic_word ws (λ k d h. cyclic_word-same (get_or ws k d));
  of_rank = All-map (IsOfRank n) cyclic_word ws (λ k d h. cyclic_word-of_rank n (get_or ws k d) (r k d h));
  few = omega (arith, length-map ws cyclic_word);
  short = omega (arith, sum-cyclic ws);
}

-- one more word
pub cut-more : (es xs : List ℕ) (ws : List (List ℕ)) (i : ℕ) (w c : List ℕ) →
    split_at 0 es xs ≡ map cyclic_word (take i ws) → EndsRise 0 es (length xs) → i < length ws → w ≡ get_or ws i w → c ≡ cyclic_word w →
    split_at 0 (es ++ length (xs ++ c) ∷ []) (xs ++ c) ≡ map cyclic_word (take (i + 1) ws)
cut-more es xs ws i w c e l h is f =
    ap (λ n. split_at 0 (es ++ n ∷ []) (xs ++ c)) (length-append xs c)
    ∙ split_at-push 0 es xs c l
    ∙ ap (λ vs. vs ++ c ∷ []) e
    ∙ ap (λ v. map cyclic_word (take i ws) ++ v ∷ []) (f ∙ ap cyclic_word is)
    ∙ sym (map_more cyclic_word ws i w h)

-- one more word that is kept as it is
pub cut-more_same : (es xs : List ℕ) (ws : List (List ℕ)) (i : ℕ) (w : List ℕ) →
    split_at 0 es xs ≡ take i ws → EndsRise 0 es (length xs) → i < length ws → w ≡ get_or ws i w →
    split_at 0 (es ++ length (xs ++ w) ∷ []) (xs ++ w) ≡ take (i + 1) ws
cut-more_same es xs ws i w e l h is =
    ap (λ n. split_at 0 (es ++ n ∷ []) (xs ++ w)) (length-append xs w)
    ∙ split_at-push 0 es xs w l
    ∙ ap (λ vs. vs ++ w ∷ []) e
    ∙ ap (λ v. take i ws ++ v ∷ []) is
    ∙ sym (take_more ws i w h)
