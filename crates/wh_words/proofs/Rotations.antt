-- The least rotation: that it is one, that it is the only one, and that turning a word keeps it.
use Rattle.std.proofs.Common.{◌≡◌, ℕ, zero, suc, ◌+◌, ◌-◌, ◌<◌, ◌≤◌, true, false, cond, List, [], ◌∷◌, ◌++◌, length, take, drop, refl, sym, ap, ◌∙◌, subst, inl, inr, arith, append_assoc, append-nil, length-append, add-one}
use Rattle.std.proofs.lemmas.Bool.{eqb-true, cases_eq, cases_Bool, cases_lt, true≢false, false≢true}
use Rattle.std.proofs.lemmas.List.{drop_at, take_all, drop_all, drop-drop, drop-append-le, take-append-le, take-append-drop}
use Rattle.std.proofs.Math.Seq.{take-append-add}
use Rattle.std.proofs.lemmas.Cmp.{upto, tied_itself, nat_list_cmp_total}
use Rattle.std.specs.FinMap.{slice_cmp-IsAntisymmetric, nat_cmp-IsAntisymmetric}
use Rattle.std.specs.declared.cmp.Ordering.{Ordering}
use Rattle.std.specs.declared.cmp.Ordering.TheVariants.{Less, Equal, Greater}
use Rattle.std.specs.Ordering.{is_lt, is_gt, ordering_reverse}
use Rattle.wh_words.specs.Letters.{inverse_letter}
use Rattle.wh_words.specs.CyclicWords.{ends_cancel, inner, strip_times, cyclic_core, cyclic_reduction, rotate, lesser, least_below, least_rotation, cyclic_word, IsLeastRotation}
use Rattle.wh_words.specs.Words.{free_reduction, word_cmp}
use Rattle.wh_words.proofs.FreeReduction.{free_reduction-pair, free_reduction-free_reduction, inverse-inverse}
use Rattle.wh_words.proofs.Turning.{Turned, cyclic_reduction-turn_letter, Ends, ends, ends_cancel-two, inner-two}
use Rattle.wh_words.proofs.Turning.Ends.{none, one, two}

-- v is at most w
abbrev pub UpTo : List ℕ → List ℕ → Type 0
UpTo v w = is_gt (word_cmp v w) ≡ false

pub UpTo-same : (w : List ℕ) → UpTo w w
UpTo-same w = ap is_gt (tied_itself nat_list_cmp_total w)

pub UpTo-then : (u v w : List ℕ) → UpTo u v → UpTo v w → UpTo u w
UpTo-then u v w = upto nat_list_cmp_total u v w

lt_upto : (o : Ordering) → is_lt o ≡ true → is_gt o ≡ false
lt_upto Less e = refl
lt_upto Equal e = refl
lt_upto Greater e = absurd (false≢true e)

not_lt_back : (o : Ordering) → is_lt o ≡ false → is_gt (ordering_reverse o) ≡ false
not_lt_back Less e = absurd (true≢false e)
not_lt_back Equal e = refl
not_lt_back Greater e = refl

both_tied : (o : Ordering) → is_gt o ≡ false → is_gt (ordering_reverse o) ≡ false → o ≡ Equal
both_tied Less e f = absurd (true≢false f)
both_tied Equal e f = refl
both_tied Greater e f = absurd (true≢false e)

UpTo-from_not_less : (v w : List ℕ) → is_lt (word_cmp v w) ≡ false → UpTo w v
UpTo-from_not_less v w h = ap is_gt (nat_list_cmp_total.antisymm w v) ∙ not_lt_back (word_cmp v w) h

pub UpTo-both : (v w : List ℕ) → UpTo v w → UpTo w v → v ≡ w
UpTo-both v w h k =
    slice_cmp-IsAntisymmetric nat_cmp-IsAntisymmetric v w
    (both_tied (word_cmp v w) h (ap is_gt (sym (nat_list_cmp_total.antisymm w v)) ∙ k))

lesser-true : (v w : List ℕ) → is_lt (word_cmp v w) ≡ true → lesser v w ≡ v
lesser-true v w h = ap (λ b. cond b v w) h

lesser-false : (v w : List ℕ) → is_lt (word_cmp v w) ≡ false → lesser v w ≡ w
lesser-false v w h = ap (λ b. cond b v w) h

pub lesser-left : (v w : List ℕ) → UpTo (lesser v w) v
lesser-left v w = elim (cases_Bool (is_lt (word_cmp v w))) [
  | inl h ↦ subst (λ (u : List ℕ). UpTo u v) (sym (lesser-true v w h)) (UpTo-same v)
  | inr h ↦ subst (λ (u : List ℕ). UpTo u v) (sym (lesser-false v w h)) (UpTo-from_not_less v w h)
]

pub lesser-right : (v w : List ℕ) → UpTo (lesser v w) w
lesser-right v w = elim (cases_Bool (is_lt (word_cmp v w))) [
  | inl h ↦ subst (λ (u : List ℕ). UpTo u w) (sym (lesser-true v w h)) (lt_upto (word_cmp v w) h)
  | inr h ↦ subst (λ (u : List ℕ). UpTo u w) (sym (lesser-false v w h)) (UpTo-same w)
]

least_below-upto : (k : ℕ) (w : List ℕ) (j : ℕ) → j < k → UpTo (least_below k w) (rotate j w)
unfolding least_below
least_below-upto zero w j h = absurd (omega arith)
least_below-upto (suc k) w j h = elim (cases_eq j k) [
  | inl e ↦ subst (λ (i : ℕ). UpTo (lesser (rotate k w) (least_below k w)) (rotate i w)) (sym e) (lesser-left (rotate k w) (least_below k w))
  | inr n ↦ UpTo-then (lesser (rotate k w) (least_below k w)) (least_below k w) (rotate j w) (lesser-right (rotate k w) (least_below k w)) (least_below-upto k w j (omega arith))
]

least_below-first : (k : ℕ) (w : List ℕ) → UpTo (least_below k w) w
unfolding least_below
least_below-first zero w = UpTo-same w
least_below-first (suc k) w = UpTo-then (lesser (rotate k w) (least_below k w)) (least_below k w) w (lesser-right (rotate k w) (least_below k w)) (least_below-first k w)

least_below-there : (k : ℕ) (w : List ℕ) → k ≤ length w → (j : ℕ) × (j ≤ length w) × (least_below k w ≡ rotate j w)
unfolding least_below
least_below-there zero w h = (0, omega arith, sym (append-nil w))
least_below-there (suc k) w h = elim (cases_Bool (is_lt (word_cmp (rotate k w) (least_below k w)))) [
  | inl e ↦ (k, omega arith, lesser-true (rotate k w) (least_below k w) e)
  | inr e ↦ (let rest : (j : ℕ) × (j ≤ length w) × (least_below k w ≡ rotate j w) = least_below-there k w (omega arith) in
      (rest.0, rest.1, lesser-false (rotate k w) (least_below k w) e ∙ rest.2))
]

pub rotate-all : (w : List ℕ) → rotate (length w) w ≡ w
rotate-all w = rw (drop_all (length w) w (omega arith), take_all (length w) w (omega arith)) refl

pub least_rotation-is : (w : List ℕ) → IsLeastRotation w (least_rotation w)
least_rotation-is w = record {
  there = least_below-there (length w) w (omega arith);
  least = λ k h. elim (cases_lt k (length w)) [
    | inl l ↦ least_below-upto (length w) w k l
    | inr g ↦ (let e : k ≡ length w = omega arith in
        subst (λ (v : List ℕ). UpTo (least_rotation w) v) (sym (ap (λ i. rotate i w) e ∙ rotate-all w)) (least_below-first (length w) w))
  ];
}

pub least_rotation_unique : (w r s : List ℕ) → IsLeastRotation w r → IsLeastRotation w s → r ≡ s
least_rotation_unique w r s h k =
    UpTo-both r s
    (subst (UpTo r) (sym k.there.2) (h.least k.there.0 k.there.1))
    (subst (UpTo s) (sym h.there.2) (k.least h.there.0 h.there.1))

-- ---- the rotations of a turned word are the same
rotate-across : (f g : List ℕ) (k : ℕ) → k ≤ length f → rotate k (f ++ g) ≡ rotate (length g + k) (g ++ f)
rotate-across f g k h =
    let left : rotate k (f ++ g) ≡ (drop k f ++ g) ++ take k f = ap (λ v. v ++ take k (f ++ g)) (drop-append-le k f g h) ∙ ap (λ v. (drop k f ++ g) ++ v) (take-append-le k f g h) in
    let dropped : drop (length g + k) (g ++ f) ≡ drop k f = sym (drop-drop k (length g) (g ++ f)) ∙ ap (drop k) (drop_at g f (length g) refl) in
    let right : rotate (length g + k) (g ++ f) ≡ drop k f ++ (g ++ take k f) = ap (λ v. v ++ take (length g + k) (g ++ f)) dropped ∙ ap (λ v. drop k f ++ v) (take-append-add g f k) in
    left ∙ append_assoc (drop k f) g (take k f) ∙ sym right

rotate-turned : (f g : List ℕ) (k : ℕ) → k ≤ length (g ++ f) → (j : ℕ) × (j ≤ length (f ++ g)) × (rotate k (g ++ f) ≡ rotate j (f ++ g))
rotate-turned f g k h =
    let n : length (g ++ f) ≡ length g + length f = length-append g f in
    let m : length (f ++ g) ≡ length f + length g = length-append f g in
    elim (cases_lt k (length g)) [
      | inl l ↦ (length f + k, omega arith, rotate-across g f k (omega arith))
      | inr q ↦ (
        k - length g,
        omega arith,
        (let e : length g + (k - length g) ≡ k = omega arith in
            sym (rotate-across f g (k - length g) (omega arith) ∙ ap (λ i. rotate i (g ++ f)) e)),
      )
    ]

least_rotation-across : (f g r : List ℕ) → IsLeastRotation (f ++ g) r → IsLeastRotation (g ++ f) r
least_rotation-across f g r h =
    let back : (j : ℕ) × (j ≤ length (g ++ f)) × (rotate h.there.0 (f ++ g) ≡ rotate j (g ++ f)) = rotate-turned g f h.there.0 h.there.1 in
    record {
      there = (back.0, back.1, h.there.2 ∙ back.2);
      least = λ k l. (let t : (j : ℕ) × (j ≤ length (f ++ g)) × (rotate k (g ++ f) ≡ rotate j (f ++ g)) = rotate-turned f g k l in
          subst (UpTo r) (sym t.2) (h.least t.0 t.1));
    }

pub least_rotation-turned : {a b : List ℕ} → Turned a b → least_rotation a ≡ least_rotation b
least_rotation-turned {a} {b} t =
    ap least_rotation t.is
    ∙ least_rotation_unique (t.back ++ t.front) (least_rotation (t.front ++ t.back)) (least_rotation (t.back ++ t.front))
    (least_rotation-across t.front t.back (least_rotation (t.front ++ t.back)) (least_rotation-is (t.front ++ t.back)))
    (least_rotation-is (t.back ++ t.front))
    ∙ ap least_rotation (sym t.turned_is)

-- ---- the cyclic word of a word is that of each word that is it, turned
pub cyclic_word-turn_letter : (x : ℕ) (w : List ℕ) → cyclic_word (x ∷ w) ≡ cyclic_word (w ++ x ∷ [])
cyclic_word-turn_letter x w = least_rotation-turned (cyclic_reduction-turn_letter x w)

pub cyclic_word-turn : (u v : List ℕ) → cyclic_word (u ++ v) ≡ cyclic_word (v ++ u)
cyclic_word-turn [] v = ap cyclic_word (sym (append-nil v))
cyclic_word-turn (x ∷ u) v =
    cyclic_word-turn_letter x (u ++ v)
    ∙ ap cyclic_word (append_assoc u v (x ∷ []))
    ∙ cyclic_word-turn u (v ++ x ∷ [])
    ∙ ap cyclic_word (append_assoc v (x ∷ []) u)

-- ---- a cyclic word is its own
cancelling-two : (w : List ℕ) → Ends w → ends_cancel w ≡ true → cyclic_word w ≡ cyclic_word (inner w)
cancelling-two w none h = absurd (false≢true h)
cancelling-two w (one x) h = absurd (false≢true h)
cancelling-two w (two x m y) h =
    let e : y ≡ inverse_letter x = eqb-true y (inverse_letter x) (sym (ends_cancel-two x m y) ∙ h) in
    ap (λ z. cyclic_word (x ∷ (m ++ z ∷ []))) e
    ∙ cyclic_word-turn_letter x (m ++ inverse_letter x ∷ [])
    ∙ ap cyclic_word (append_assoc m (inverse_letter x ∷ []) (x ∷ []))
    ∙ ap (λ z. cyclic_word (m ++ inverse_letter x ∷ z ∷ [])) (sym (inverse-inverse x))
    ∙ ap (λ v. least_rotation (cyclic_core v)) (free_reduction-pair m (inverse_letter x) [] ∙ ap free_reduction (append-nil m))
    ∙ ap cyclic_word (sym (inner-two x m y))

cyclic_word-strip_times : (n : ℕ) (w : List ℕ) → cyclic_word (strip_times n w) ≡ cyclic_word w
cyclic_word-strip_times zero w = refl
cyclic_word-strip_times (suc n) w = elim (cases_Bool (ends_cancel w)) [
  | inl h ↦ ap (λ b. cyclic_word (cond b (strip_times n (inner w)) w)) h ∙ cyclic_word-strip_times n (inner w) ∙ sym (cancelling-two w (ends w) h)
  | inr h ↦ ap (λ b. cyclic_word (cond b (strip_times n (inner w)) w)) h
]

pub cyclic_word-cyclic_core : (w : List ℕ) → cyclic_word (cyclic_core w) ≡ cyclic_word w
unfolding cyclic_core
cyclic_word-cyclic_core w = cyclic_word-strip_times (length w) w

pub cyclic_word-free_reduction : (w : List ℕ) → cyclic_word (free_reduction w) ≡ cyclic_word w
cyclic_word-free_reduction w = ap (λ v. least_rotation (cyclic_core v)) (free_reduction-free_reduction w)

pub cyclic_word-cyclic_reduction : (w : List ℕ) → cyclic_word (cyclic_reduction w) ≡ cyclic_word w
cyclic_word-cyclic_reduction w = cyclic_word-cyclic_core (free_reduction w) ∙ cyclic_word-free_reduction w

pub cyclic_word-rotate : (k : ℕ) (w : List ℕ) → cyclic_word (rotate k w) ≡ cyclic_word w
cyclic_word-rotate k w = cyclic_word-turn (drop k w) (take k w) ∙ ap cyclic_word (take-append-drop k w)

pub cyclic_word-same : (w : List ℕ) → cyclic_word (cyclic_word w) ≡ cyclic_word w
cyclic_word-same w =
    let r : IsLeastRotation (cyclic_reduction w) (cyclic_word w) = least_rotation-is (cyclic_reduction w) in
    ap cyclic_word r.there.2 ∙ cyclic_word-rotate r.there.0 (cyclic_reduction w) ∙ cyclic_word-cyclic_reduction w

-- ---- for the loop that looks for the least
pub rotate_zero : (w : List ℕ) → rotate 0 w ≡ w
rotate_zero w = append-nil w

pub least_start : (w : List ℕ) → rotate 0 w ≡ least_below 0 w
unfolding least_below
least_start w = append-nil w

pub least_less : (w : List ℕ) (b k : ℕ) → rotate b w ≡ least_below k w → is_lt (word_cmp (rotate k w) (rotate b w)) ≡ true → rotate k w ≡ least_below (k + 1) w
unfolding least_below
least_less w b k e h = rw add-one (sym (lesser-true (rotate k w) (least_below k w) (subst (λ (v : List ℕ). is_lt (word_cmp (rotate k w) v) ≡ true) e h)))

pub least_other : (w : List ℕ) (b k : ℕ) → rotate b w ≡ least_below k w → is_lt (word_cmp (rotate k w) (rotate b w)) ≡ false → rotate b w ≡ least_below (k + 1) w
unfolding least_below
least_other w b k e h = rw add-one (e ∙ sym (lesser-false (rotate k w) (least_below k w) (subst (λ (v : List ℕ). is_lt (word_cmp (rotate k w) v) ≡ false) e h)))
