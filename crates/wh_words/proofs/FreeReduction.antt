-- The reduced form: that it is reduced, that it is the only one, and how it goes with ++.
use Rattle.std.proofs.Common.{◌≡◌, ◌≢◌, ℕ, ◌+◌, ◌-◌, ◌/◌, ◌<◌, ◌≤◌, List, [], ◌∷◌, ◌++◌, length, refl, sym, ap, ◌∙◌, subst, inl, inr, arith, append_assoc, append-nil, get_or, take, slice_get, Some}
use Rattle.std.proofs.lemmas.Bool.Decides.{nat_tests}
use Rattle.std.proofs.lemmas.Bool.{cases_eq}
use Rattle.std.proofs.lemmas.Option.{slice_get_within, slice_get-get_or, get_or_from_slice_get}
use Rattle.std.proofs.lemmas.List.{take_all, take_more, length_push, get_or_push}
use Rattle.wh_words.specs.Letters.{inverse_letter}
use Rattle.wh_words.specs.Words.{put_before, free_reduction, StartsOtherThan, IsReduced, DeletesTo}
use Rattle.wh_words.specs.Words.DeletesTo.{none, pair}

pub inverse-inverse : (x : ℕ) → inverse_letter (inverse_letter x) ≡ x
unfolding inverse_letter
inverse-inverse x = omega arith

pub inverse-other : (x : ℕ) → inverse_letter x ≢ x
unfolding inverse_letter
inverse-other x = omega arith

pub inverse_generator : (x : ℕ) → inverse_letter x / 2 ≡ x / 2
unfolding inverse_letter
inverse_generator x = omega arith

pub turned : (x y : ℕ) → x ≡ inverse_letter y → y ≡ inverse_letter x
turned x y e = sym (inverse-inverse y) ∙ ap inverse_letter (sym e)

pub put_before-same : (x y : ℕ) (w : List ℕ) → y ≡ inverse_letter x → put_before x (y ∷ w) ≡ w
put_before-same x y w h = grind (arith, nat_tests)

pub put_before-other : (x y : ℕ) (w : List ℕ) → y ≢ inverse_letter x → put_before x (y ∷ w) ≡ x ∷ y ∷ w
put_before-other x y w h = grind (arith, nat_tests)

put_first : (x y : ℕ) (w : List ℕ) → y ≡ inverse_letter x → IsReduced (y ∷ w) → put_before (inverse_letter x) w ≡ y ∷ w
put_first x y [] e r = ap (λ z. z ∷ []) (sym e)
put_first x y (z ∷ w) e r = put_before-other (inverse_letter x) z w (subst (λ (v : ℕ). z ≢ inverse_letter v) e r.0) ∙ ap (λ v. v ∷ z ∷ w) (sym e)

pub put_back : (x : ℕ) (w : List ℕ) → IsReduced w → put_before (inverse_letter x) (put_before x w) ≡ w
put_back x [] r = put_before-same (inverse_letter x) x [] (sym (inverse-inverse x))
put_back x (y ∷ w) r = elim (cases_eq y (inverse_letter x)) [
  | inl e ↦ rw (put_before-same x y w e) (put_first x y w e r)
  | inr n ↦ rw (put_before-other x y w n) (put_before-same (inverse_letter x) x (y ∷ w) (sym (inverse-inverse x)))
]

pub put_before-reduced : (x : ℕ) (w : List ℕ) → IsReduced w → IsReduced (put_before x w)
put_before-reduced x [] r = (tt, tt)
put_before-reduced x (y ∷ w) r = elim (cases_eq y (inverse_letter x)) [
  | inl e ↦ rw (put_before-same x y w e) r.1
  | inr n ↦ rw (put_before-other x y w n) (n, r)
]

pub free_reduction-reduced : (w : List ℕ) → IsReduced (free_reduction w)
free_reduction-reduced [] = tt
free_reduction-reduced (x ∷ w) = put_before-reduced x (free_reduction w) (free_reduction-reduced w)

pub put_before-is : (x : ℕ) (w : List ℕ) → StartsOtherThan (inverse_letter x) w → put_before x w ≡ x ∷ w
put_before-is x [] n = refl
put_before-is x (y ∷ w) n = put_before-other x y w n

-- a reduced word is its own reduced form
pub free_reduction-same : (w : List ℕ) → IsReduced w → free_reduction w ≡ w
free_reduction-same [] r = refl
free_reduction-same (x ∷ w) r = ap (put_before x) (free_reduction-same w r.1) ∙ put_before-is x w r.0

pub free_reduction-free_reduction : (w : List ℕ) → free_reduction (free_reduction w) ≡ free_reduction w
free_reduction-free_reduction w = free_reduction-same (free_reduction w) (free_reduction-reduced w)

pub free_reduction-append_right : (u v : List ℕ) → free_reduction (u ++ free_reduction v) ≡ free_reduction (u ++ v)
free_reduction-append_right [] v = free_reduction-free_reduction v
free_reduction-append_right (x ∷ u) v = ap (put_before x) (free_reduction-append_right u v)

pub put_both : (x : ℕ) (w : List ℕ) → IsReduced w → put_before x (put_before (inverse_letter x) w) ≡ w
put_both x w r = rw inverse-inverse at (put_back (inverse_letter x) w r)

-- a pair in the midst changes nothing
pub free_reduction-pair : (front : List ℕ) (x : ℕ) (back : List ℕ) → free_reduction (front ++ x ∷ inverse_letter x ∷ back) ≡ free_reduction (front ++ back)
free_reduction-pair [] x back = put_both x (free_reduction back) (free_reduction-reduced back)
free_reduction-pair (y ∷ front) x back = ap (put_before y) (free_reduction-pair front x back)

put_append : (x : ℕ) (w v : List ℕ) → free_reduction (put_before x w ++ v) ≡ put_before x (free_reduction (w ++ v))
put_append x [] v = refl
put_append x (y ∷ w) v = elim (cases_eq y (inverse_letter x)) [
  | inl e ↦ rw (put_before-same x y w e, e) (sym (put_both x (free_reduction (w ++ v)) (free_reduction-reduced (w ++ v))))
  | inr n ↦ rw (put_before-other x y w n) refl
]

pub free_reduction-append_left : (u v : List ℕ) → free_reduction (free_reduction u ++ v) ≡ free_reduction (u ++ v)
free_reduction-append_left [] v = refl
free_reduction-append_left (x ∷ u) v = put_append x (free_reduction u) v ∙ ap (put_before x) (free_reduction-append_left u v)

-- ---- the reduced form is what any way of deleting ends at
pub free_reduction-deletes : {w v : List ℕ} → DeletesTo w v → free_reduction w ≡ free_reduction v
free_reduction-deletes none = refl
free_reduction-deletes (pair front x back d) = free_reduction-pair front x back ∙ free_reduction-deletes d

pub remains_unique : {w v : List ℕ} → DeletesTo w v → IsReduced v → v ≡ free_reduction w
remains_unique {w} {v} d r = sym (free_reduction-same v r) ∙ sym (free_reduction-deletes d)

deletes_under : (x : ℕ) {w v : List ℕ} → DeletesTo w v → DeletesTo (x ∷ w) (x ∷ v)
deletes_under x none = none
deletes_under x (pair front y back d) = pair (x ∷ front) y back (deletes_under x d)

deletes_then : {u v w : List ℕ} → DeletesTo u v → DeletesTo v w → DeletesTo u w
deletes_then none e = e
deletes_then (pair front x back d) e = pair front x back (deletes_then d e)

put_deletes : (x : ℕ) (w : List ℕ) → DeletesTo (x ∷ w) (put_before x w)
put_deletes x [] = none
put_deletes x (y ∷ w) = elim (cases_eq y (inverse_letter x)) [
  | inl e ↦ rw (put_before-same x y w e, e) (pair [] x w none)
  | inr n ↦ rw (put_before-other x y w n) none
]

pub remains_there : (w : List ℕ) → DeletesTo w (free_reduction w)
remains_there [] = none
remains_there (x ∷ w) = deletes_then (deletes_under x (remains_there w)) (put_deletes x (free_reduction w))

-- ---- a letter at the end
-- a front of a reduced word is reduced
pub front-reduced : (u v : List ℕ) → IsReduced (u ++ v) → IsReduced u
front-reduced [] v r = tt
front-reduced (x ∷ []) v r = (tt, tt)
front-reduced (x ∷ y ∷ u) v r = (r.0, front-reduced (y ∷ u) v r.1)

-- the last letter cancels with the next
pub free_reduction-last_same : (w : List ℕ) (x : ℕ) → IsReduced (w ++ inverse_letter x ∷ []) → free_reduction ((w ++ inverse_letter x ∷ []) ++ x ∷ []) ≡ w
free_reduction-last_same w x r =
    let pair_goes : free_reduction (w ++ inverse_letter x ∷ inverse_letter (inverse_letter x) ∷ []) ≡ free_reduction (w ++ []) = free_reduction-pair w (inverse_letter x) [] in
    let e : free_reduction (w ++ inverse_letter x ∷ x ∷ []) ≡ free_reduction (w ++ []) = rw inverse-inverse at pair_goes in
    rw append_assoc (e ∙ rw append-nil (free_reduction-same w (front-reduced w (inverse_letter x ∷ []) r)))

-- it stays where no front and it make the word
pub push-reduced : (w : List ℕ) (x : ℕ) → IsReduced w → ((u : List ℕ) → w ≢ u ++ inverse_letter x ∷ []) → IsReduced (w ++ x ∷ [])
push-reduced [] x r n = (tt, tt)
push-reduced (y ∷ []) x r n = ((λ e. n [] (ap (λ z. z ∷ []) (turned x y e))), (tt, tt))
push-reduced (y ∷ z ∷ w) x r n = (r.0, push-reduced (z ∷ w) x r.1 (λ u e. n (y ∷ u) (ap (λ v. y ∷ v) e)))

-- ---- the same, by the last item
pub last_split : (w : List ℕ) (y : ℕ) → slice_get w (length w - 1) ≡ Some y → w ≡ take (length w - 1) w ++ y ∷ []
last_split w y h =
    let within : length w - 1 < length w = slice_get_within w (length w - 1) y h in
    let whole : take (length w - 1 + 1) w ≡ w = take_all (length w - 1 + 1) w (omega arith) in
    let cut : take (length w - 1 + 1) w ≡ take (length w - 1) w ++ get_or w (length w - 1) y ∷ [] = take_more w (length w - 1) y within in
    sym whole ∙ cut ∙ ap (λ z. take (length w - 1) w ++ z ∷ []) (get_or_from_slice_get w (length w - 1) y y h)

pub last_read : (u : List ℕ) (y : ℕ) → slice_get (u ++ y ∷ []) (length (u ++ y ∷ []) - 1) ≡ Some y
last_read u y =
    let n : length (u ++ y ∷ []) ≡ length u + 1 = length_push u y in
    slice_get-get_or (u ++ y ∷ []) (length (u ++ y ∷ []) - 1) 0 (omega arith)
    ∙ ap (λ z. Some z) (get_or_push u y 0 (length (u ++ y ∷ []) - 1) (omega arith))

pub push_same : (w : List ℕ) (x : ℕ) → IsReduced w → slice_get w (length w - 1) ≡ Some (inverse_letter x) → take (length w - 1) w ≡ free_reduction (w ++ x ∷ [])
push_same w x r h =
    let e : w ≡ take (length w - 1) w ++ inverse_letter x ∷ [] = last_split w (inverse_letter x) h in
    sym (free_reduction-last_same (take (length w - 1) w) x (subst IsReduced e r)) ∙ ap (λ v. free_reduction (v ++ x ∷ [])) (sym e)

pub push_other : (w : List ℕ) (x : ℕ) → IsReduced w → (slice_get w (length w - 1) ≡ Some (inverse_letter x) → ⊥) → w ++ x ∷ [] ≡ free_reduction (w ++ x ∷ [])
push_other w x r n =
    sym (free_reduction-same (w ++ x ∷ []) (push-reduced w x r (λ u e. n (rw e (last_read u (inverse_letter x))))))

pub free_reduction-more : (w : List ℕ) (i x : ℕ) → i < length w → x ≡ get_or w i x → free_reduction (free_reduction (take i w) ++ x ∷ []) ≡ free_reduction (take (i + 1) w)
free_reduction-more w i x l e = free_reduction-append_left (take i w) (x ∷ []) ∙ ap free_reduction (ap (λ z. take i w ++ z ∷ []) e ∙ sym (take_more w i x l))

put_before-length : (x : ℕ) (w : List ℕ) → length (put_before x w) ≤ length w + 1
put_before-length x [] = omega arith
put_before-length x (y ∷ w) = elim (cases_eq y (inverse_letter x)) [
  | inl e ↦ rw (put_before-same x y w e) (omega arith)
  | inr n ↦ rw (put_before-other x y w n) (omega arith)
]

pub free_reduction-length : (w : List ℕ) → length (free_reduction w) ≤ length w
free_reduction-length [] = omega arith
free_reduction-length (x ∷ w) = omega (arith, put_before-length x (free_reduction w), free_reduction-length w)
