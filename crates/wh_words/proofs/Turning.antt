-- Cyclic words: the cyclic reduction, the least rotation, and that turning a word changes neither.
use Rattle.std.proofs.Common.{◌≡◌, ◌≢◌, ℕ, zero, suc, ◌+◌, ◌-◌, ◌<◌, ◌≤◌, ◌==◌, ltb, ◌&&◌, true, false, cond, List, [], ◌∷◌, ◌++◌, length, get_or, refl, sym, ap, ◌∙◌, subst, inl, inr, arith, append_assoc, append-nil, add-one}
use Rattle.std.proofs.lemmas.Grind.{common_steps}
use Rattle.std.proofs.lemmas.Bool.{false≢true, cond_both, le-ltb, cases_eq, eq-eqb, ne_eqb, lt-ltb, and_from, and_right, eqb-true}
use Rattle.std.proofs.lemmas.List.{get_or_at, take_at, length_push, same_from_push}
use Rattle.wh_words.specs.Letters.{inverse_letter}
use Rattle.wh_words.specs.Words.{put_before, free_reduction, IsReduced}
use Rattle.wh_words.specs.CyclicWords.{ends_cancel, inner, strip_times, cyclic_core, cyclic_reduction}
use Rattle.wh_words.proofs.FreeReduction.{turned, put_before-same, put_before-other, free_reduction-same, free_reduction-reduced, free_reduction-append_left, free_reduction-last_same, push-reduced}

-- ---- a word by its two ends
pub data Ends : List ℕ → Type 0 where
  none : Ends []
  one : (x : ℕ) → Ends (x ∷ [])
  two : (x : ℕ) (m : List ℕ) (y : ℕ) → Ends (x ∷ (m ++ y ∷ []))

ends_more : (x : ℕ) {w : List ℕ} → Ends w → Ends (x ∷ w)
ends_more x none = one x
ends_more x (one y) = two x [] y
ends_more x (two y m z) = two x (y ∷ m) z

pub ends : (w : List ℕ) → Ends w
ends [] = none
ends (x ∷ w) = ends_more x (ends w)

pub ends_cancel-two : (x : ℕ) (m : List ℕ) (y : ℕ) → ends_cancel (x ∷ (m ++ y ∷ [])) ≡ (y == inverse_letter x)
ends_cancel-two x m y =
    let n : length (m ++ y ∷ []) ≡ length m + 1 = length_push m y in
    let long : ltb 1 (length (x ∷ (m ++ y ∷ []))) ≡ true = lt-ltb 1 (length (x ∷ (m ++ y ∷ []))) (omega arith) in
    let last : get_or (x ∷ (m ++ y ∷ [])) (length (x ∷ (m ++ y ∷ [])) - 1) 0 ≡ y = get_or_at (x ∷ m) y [] 0 (length (x ∷ (m ++ y ∷ [])) - 1) (omega arith) in
    ap (λ b. b && (get_or (x ∷ (m ++ y ∷ [])) (length (x ∷ (m ++ y ∷ [])) - 1) 0 == inverse_letter x)) long ∙ ap (λ z. z == inverse_letter x) last

pub inner-two : (x : ℕ) (m : List ℕ) (y : ℕ) → inner (x ∷ (m ++ y ∷ [])) ≡ m
inner-two x m y =
    let n : length (m ++ y ∷ []) ≡ length m + 1 = length_push m y in
    take_at m (y ∷ []) (length (x ∷ (m ++ y ∷ [])) - 1 - 1) (omega arith)

pub same_ends : (x : ℕ) (m : List ℕ) (y : ℕ) → y ≡ inverse_letter x → ends_cancel (x ∷ (m ++ y ∷ [])) ≡ true
same_ends x m y e = ends_cancel-two x m y ∙ eq-eqb y (inverse_letter x) e

pub other_ends : (x : ℕ) (m : List ℕ) (y : ℕ) → y ≢ inverse_letter x → ends_cancel (x ∷ (m ++ y ∷ [])) ≡ false
other_ends x m y n = ends_cancel-two x m y ∙ ne_eqb y (inverse_letter x) n

-- ---- stripping does not depend on the allowance, if it is large enough
inner-length : (w : List ℕ) → length (inner w) ≤ length w - 2
inner-length w = grind (arith, common_steps)

strip_times-more : (n : ℕ) (w : List ℕ) → length w ≤ n → strip_times (suc n) w ≡ strip_times n w
strip_times-more zero [] h = refl
strip_times-more zero (x ∷ w) h = absurd (omega arith)
strip_times-more (suc n) w h = ap (λ v. cond (ends_cancel w) v w) (strip_times-more n (inner w) (omega (arith, inner-length w)))

pub cyclic_core-other : (w : List ℕ) → ends_cancel w ≡ false → cyclic_core w ≡ w
unfolding cyclic_core
cyclic_core-other [] h = refl
cyclic_core-other (x ∷ w) h = ap (λ b. cond b (strip_times (length w) (inner (x ∷ w))) (x ∷ w)) h

pub cyclic_core-two : (x : ℕ) (m : List ℕ) (y : ℕ) → y ≡ inverse_letter x → cyclic_core (x ∷ (m ++ y ∷ [])) ≡ cyclic_core m
unfolding cyclic_core
cyclic_core-two x m y e =
    let n : length (m ++ y ∷ []) ≡ suc (length m) = length_push m y ∙ add-one (length m) in
    ap (λ b. cond b (strip_times (length (m ++ y ∷ [])) (inner (x ∷ (m ++ y ∷ [])))) (x ∷ (m ++ y ∷ []))) (same_ends x m y e)
    ∙ ap (strip_times (length (m ++ y ∷ []))) (inner-two x m y)
    ∙ ap (λ k. strip_times k m) n
    ∙ strip_times-more (length m) m (omega arith)

-- ---- turning a word by one letter
-- b is a turned
pub record Turned (a b : List ℕ) : Type 0 where
  pub front : List ℕ
  pub back : List ℕ
  pub is : a ≡ front ++ back
  pub turned_is : b ≡ back ++ front

Turned-same : (a : List ℕ) → Turned a a
Turned-same a = record { front = []; back = a; is = refl; turned_is = sym (append-nil a) }

Turned-along : {a b c d : List ℕ} → a ≡ c → b ≡ d → Turned c d → Turned a b
Turned-along e f t = record { front = t.front; back = t.back; is = e ∙ t.is; turned_is = f ∙ t.turned_is }

-- the last two letters of a reduced word
pub last_two : (u : List ℕ) (x y : ℕ) → IsReduced (u ++ x ∷ y ∷ []) → y ≢ inverse_letter x
last_two [] x y r = r.0
last_two (z ∷ []) x y r = r.1.0
last_two (z ∷ v ∷ u) x y r = last_two (v ∷ u) x y r.1

pub back-reduced : (u v : List ℕ) → IsReduced (u ++ v) → IsReduced v
back-reduced [] v r = r
back-reduced (x ∷ u) v r = back-reduced u v r.1

-- what does not end with a letter
not_end : (u : List ℕ) (z y : ℕ) → z ≢ y → (v : List ℕ) → u ++ z ∷ [] ≢ v ++ y ∷ []
not_end u z y n v e = n (same_from_push u v z y e).1

-- a reduced word that begins with the inverse of x, without that letter, has no ends that cancel where it ends with the inverse of x too
front_open : (x : ℕ) (m : List ℕ) → Ends m → IsReduced (inverse_letter x ∷ (m ++ inverse_letter x ∷ [])) → ends_cancel (m ++ inverse_letter x ∷ []) ≡ false
front_open x m none r = refl
front_open x m (one u) r = other_ends u [] (inverse_letter x) (λ e. r.0 (turned (inverse_letter x) u e))
front_open x m (two u k v) r = other_ends u (k ++ v ∷ []) (inverse_letter x) (λ e. r.0 (turned (inverse_letter x) u e))

back_open : (x : ℕ) (m : List ℕ) → Ends m → IsReduced (inverse_letter x ∷ (m ++ inverse_letter x ∷ [])) → ends_cancel (inverse_letter x ∷ m) ≡ false
back_open x m none r = refl
back_open x m (one u) r = other_ends (inverse_letter x) [] u r.0
back_open x m (two u k v) r =
    other_ends (inverse_letter x) (u ∷ k) v
    (λ e. last_two (inverse_letter x ∷ u ∷ k) v (inverse_letter x)
    (subst IsReduced (ap (λ t. inverse_letter x ∷ u ∷ t) (append_assoc k (v ∷ []) (inverse_letter x ∷ []))) r)
    (turned v (inverse_letter x) e))

module _ (x y : ℕ) (m : List ℕ) (z : ℕ) where
  abbrev word : List ℕ
  word = y ∷ (m ++ z ∷ [])

  -- both ends cancel with x
  turn_both : y ≡ inverse_letter x → z ≡ inverse_letter x → IsReduced word → Turned (cyclic_core (put_before x word)) (cyclic_core (free_reduction (word ++ x ∷ [])))
  turn_both e f r =
      let s : IsReduced (inverse_letter x ∷ (m ++ inverse_letter x ∷ [])) = subst (λ (t : ℕ). IsReduced (inverse_letter x ∷ (m ++ t ∷ []))) f (subst (λ (t : ℕ). IsReduced (t ∷ (m ++ z ∷ []))) e r) in
      let before : cyclic_core (put_before x word) ≡ m ++ inverse_letter x ∷ [] =
      ap cyclic_core (put_before-same x y (m ++ z ∷ []) e ∙ ap (λ t. m ++ t ∷ []) f) ∙ cyclic_core-other (m ++ inverse_letter x ∷ []) (front_open x m (ends m) s) in
      let same : word ++ x ∷ [] ≡ ((inverse_letter x ∷ m) ++ inverse_letter x ∷ []) ++ x ∷ [] = ap (λ t. (t ∷ (m ++ z ∷ [])) ++ x ∷ []) e ∙ ap (λ t. (inverse_letter x ∷ (m ++ t ∷ [])) ++ x ∷ []) f in
      let after : cyclic_core (free_reduction (word ++ x ∷ [])) ≡ inverse_letter x ∷ m =
      ap cyclic_core (ap free_reduction same ∙ free_reduction-last_same (inverse_letter x ∷ m) x s) ∙ cyclic_core-other (inverse_letter x ∷ m) (back_open x m (ends m) s) in
      record { front = m; back = inverse_letter x ∷ []; is = before; turned_is = after }

  -- the first letter alone does
  turn_first : y ≡ inverse_letter x → z ≢ inverse_letter x → IsReduced word → Turned (cyclic_core (put_before x word)) (cyclic_core (free_reduction (word ++ x ∷ [])))
  turn_first e n r =
      let before : put_before x word ≡ m ++ z ∷ [] = put_before-same x y (m ++ z ∷ []) e in
      let stays : free_reduction (word ++ x ∷ []) ≡ word ++ x ∷ [] = free_reduction-same (word ++ x ∷ []) (push-reduced word x r (not_end (y ∷ m) z (inverse_letter x) n)) in
      Turned-along (ap cyclic_core before) (ap cyclic_core stays ∙ cyclic_core-two y (m ++ z ∷ []) x (turned y x e)) (Turned-same (cyclic_core (m ++ z ∷ [])))

  -- the last letter alone does
  turn_last : y ≢ inverse_letter x → z ≡ inverse_letter x → IsReduced word → Turned (cyclic_core (put_before x word)) (cyclic_core (free_reduction (word ++ x ∷ [])))
  turn_last n f r =
      let before : put_before x word ≡ x ∷ word = put_before-other x y (m ++ z ∷ []) n in
      let goes : free_reduction (word ++ x ∷ []) ≡ y ∷ m =
      ap (λ t. free_reduction ((y ∷ (m ++ t ∷ [])) ++ x ∷ [])) f ∙ free_reduction-last_same (y ∷ m) x (subst (λ (t : ℕ). IsReduced (y ∷ (m ++ t ∷ []))) f r) in
      Turned-along (ap cyclic_core before ∙ cyclic_core-two x (y ∷ m) z f) (ap cyclic_core goes) (Turned-same (cyclic_core (y ∷ m)))

  -- neither does
  turn_none : y ≢ inverse_letter x → z ≢ inverse_letter x → IsReduced word → Turned (cyclic_core (put_before x word)) (cyclic_core (free_reduction (word ++ x ∷ [])))
  turn_none n k r =
      let before : put_before x word ≡ x ∷ word = put_before-other x y (m ++ z ∷ []) n in
      let stays : free_reduction (word ++ x ∷ []) ≡ word ++ x ∷ [] = free_reduction-same (word ++ x ∷ []) (push-reduced word x r (not_end (y ∷ m) z (inverse_letter x) k)) in
      Turned-along
      (ap cyclic_core before ∙ cyclic_core-other (x ∷ word) (other_ends x (y ∷ m) z k))
      (ap cyclic_core stays ∙ cyclic_core-other (word ++ x ∷ []) (other_ends y (m ++ z ∷ []) x (λ e. n (turned x y e))))
      (record { front = x ∷ []; back = word; is = refl; turned_is = refl })

turn_two : (x y : ℕ) (m : List ℕ) (z : ℕ) → IsReduced (y ∷ (m ++ z ∷ [])) → Turned (cyclic_core (put_before x (y ∷ (m ++ z ∷ [])))) (cyclic_core (free_reduction ((y ∷ (m ++ z ∷ [])) ++ x ∷ [])))
turn_two x y m z r = elim (cases_eq y (inverse_letter x)) [
  | inl e ↦ elim (cases_eq z (inverse_letter x)) [ inl f ↦ turn_both x y m z e f r | inr n ↦ turn_first x y m z e n r ]
  | inr n ↦ elim (cases_eq z (inverse_letter x)) [ inl f ↦ turn_last x y m z n f r | inr k ↦ turn_none x y m z n k r ]
]

turn_one : (x y : ℕ) → Turned (cyclic_core (put_before x (y ∷ []))) (cyclic_core (free_reduction (y ∷ x ∷ [])))
turn_one x y = elim (cases_eq y (inverse_letter x)) [
  | inl e ↦ Turned-along (ap cyclic_core (put_before-same x y [] e)) (ap cyclic_core (put_before-same y x [] (turned y x e))) (Turned-same (cyclic_core []))
  | inr n ↦ Turned-along
      (ap cyclic_core (put_before-other x y [] n) ∙ cyclic_core-other (x ∷ y ∷ []) (other_ends x [] y n))
      (ap cyclic_core (put_before-other y x [] (λ e. n (turned x y e))) ∙ cyclic_core-other (y ∷ x ∷ []) (other_ends y [] x (λ e. n (turned x y e))))
      (record { front = x ∷ []; back = y ∷ []; is = refl; turned_is = refl })
]

turn_reduced : (x : ℕ) {r : List ℕ} → Ends r → IsReduced r → Turned (cyclic_core (put_before x r)) (cyclic_core (free_reduction (r ++ x ∷ [])))
turn_reduced x none h = Turned-same (cyclic_core (x ∷ []))
turn_reduced x (one y) h = turn_one x y
turn_reduced x (two y m z) h = turn_two x y m z h

-- the cyclic reduction is turned where the word is
pub cyclic_reduction-turn_letter : (x : ℕ) (w : List ℕ) → Turned (cyclic_reduction (x ∷ w)) (cyclic_reduction (w ++ x ∷ []))
cyclic_reduction-turn_letter x w = Turned-along refl (ap cyclic_core (sym (free_reduction-append_left w (x ∷ [])))) (turn_reduced x (ends (free_reduction w)) (free_reduction-reduced w))

-- ---- for the loop that strips
strip_cancel : (w : List ℕ) → Ends w → ends_cancel w ≡ true → cyclic_core (inner w) ≡ cyclic_core w
strip_cancel w none h = absurd (false≢true h)
strip_cancel w (one x) h = absurd (false≢true h)
strip_cancel w (two x m y) h = ap cyclic_core (inner-two x m y) ∙ sym (cyclic_core-two x m y (eqb-true y (inverse_letter x) (sym (ends_cancel-two x m y) ∙ h)))

pub strip_inner : (w : List ℕ) → 2 ≤ length w → get_or w (length w - 1) 0 ≡ inverse_letter (get_or w 0 0) → cyclic_core (inner w) ≡ cyclic_core w
strip_inner w l e = strip_cancel w (ends w) (and_from (ltb 1 (length w)) (get_or w (length w - 1) 0 == inverse_letter (get_or w 0 0)) (lt-ltb 1 (length w) (omega arith)) (eq-eqb (get_or w (length w - 1) 0) (inverse_letter (get_or w 0 0)) e))

pub strip_open : (w : List ℕ) → get_or w (length w - 1) 0 ≢ inverse_letter (get_or w 0 0) → cyclic_core w ≡ w
strip_open w n = cyclic_core-other w (and_right (ltb 1 (length w)) (get_or w (length w - 1) 0 == inverse_letter (get_or w 0 0)) (ne_eqb (get_or w (length w - 1) 0) (inverse_letter (get_or w 0 0)) n))

pub strip_short : (w : List ℕ) → length w < 2 → cyclic_core w ≡ w
strip_short w l = cyclic_core-other w (ap (λ b. b && (get_or w (length w - 1) 0 == inverse_letter (get_or w 0 0))) (le-ltb 1 (length w) (omega arith)))

strip_times-length : (n : ℕ) (w : List ℕ) → length (strip_times n w) ≤ length w
strip_times-length zero w = omega arith
strip_times-length (suc n) w = cond_both (ends_cancel w) (strip_times n (inner w)) w (λ v. length v ≤ length w) (λ e. omega (arith, strip_times-length n (inner w), inner-length w)) (λ e. omega arith)

pub cyclic_core-length : (w : List ℕ) → length (cyclic_core w) ≤ length w
unfolding cyclic_core
cyclic_core-length w = strip_times-length (length w) w
