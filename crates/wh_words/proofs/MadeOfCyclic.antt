-- Tuples made of words, and compared word by word.
use Rattle.std.proofs.Common.{◌≡◌, ◌≢◌, ℕ, zero, suc, ◌+◌, ◌-◌, ◌<◌, ◌≤◌, List, [], ◌∷◌, length, get_or, take, drop, refl, sym, ap, ◌∙◌, inl, inr, ◌⊎◌, arith, length-take, length-drop}
use Rattle.std.proofs.lemmas.Bool.Decides.{nat_tests}
use Rattle.std.proofs.lemmas.List.{take_more, take_all, drop_more}
use Rattle.std.proofs.lemmas.List.Sums.{sum_by_push, sum_by-cons}
use Rattle.std.specs.List.{sum_by}
use Rattle.std.specs.Ordering.{nat_cmp, ordering_then}
use Rattle.std.specs.Cmp.Lexicographic.{slice_cmp}
use Rattle.std.specs.declared.cmp.Ordering.{Ordering}
use Rattle.std.specs.declared.cmp.Ordering.TheVariants.{Less, Equal, Greater}
use Rattle.wh_words.specs.CyclicWords.{cyclic_word}
use Rattle.wh_words.specs.Words.{word_cmp}
use Rattle.wh_words.specs.Tuples.{TupleData, Tuple, tuple_cmp, tuple_length, own_room, with_word}

-- so many of the words are written
abbrev pub written : ℕ → List (List ℕ) → ℕ → Tuple
written rank ws i = record { plain = record { rank = rank; words = take i ws }; room = sum_by length ws; word_room = length ws }

pub made_start : (rank : ℕ) (ws : List (List ℕ)) → record { plain = record { rank = rank; words = [] }; room = sum_by length ws; word_room = length ws } ≡ written rank ws 0
made_start rank ws = refl

take_sum : (ws : List (List ℕ)) (i : ℕ) → sum_by length (take i ws) ≤ sum_by length ws
take_sum [] zero = omega arith
take_sum [] (suc i) = omega arith
take_sum (w ∷ ws) zero = omega arith
take_sum (w ∷ ws) (suc i) = omega (arith, take_sum ws i, sum_by-cons length w (take i ws), sum_by-cons length w ws)

pub made_fits : (rank : ℕ) (ws : List (List ℕ)) (i : ℕ) (w : List ℕ) (made : Tuple) → i < length ws → w ≡ get_or ws i w → made ≡ written rank ws i → cyclic_word w ≡ w →
    tuple_length made.plain + length (cyclic_word w) ≤ made.room
made_fits rank ws i w made h e is own =
    omega (
      arith,
      ap (λ (u : Tuple). tuple_length u.plain) is,
      ap (λ (u : Tuple). u.room) is,
      ap length own,
      ap (sum_by length) (take_more ws i w h),
      sum_by_push length (take i ws) (get_or ws i w),
      ap length e,
      take_sum ws (i + 1),
    )

pub made_place : (rank : ℕ) (ws : List (List ℕ)) (i : ℕ) (made : Tuple) → i < length ws → made ≡ written rank ws i → length made.plain.words < made.word_room
made_place rank ws i made h is = omega (arith, ap (λ (u : Tuple). length u.plain.words) is, ap (λ (u : Tuple). u.word_room) is, length-take i ws, h)

pub made_more : (rank : ℕ) (ws : List (List ℕ)) (i : ℕ) (w : List ℕ) (made new : Tuple) → i < length ws → w ≡ get_or ws i w → made ≡ written rank ws i → cyclic_word w ≡ w →
    new ≡ with_word made (cyclic_word w) → new ≡ written rank ws (i + 1)
made_more rank ws i w made new h e is own n =
    n ∙ ap (λ (u : Tuple). with_word u (cyclic_word w)) is ∙ ap (λ v. with_word (written rank ws i) v) (own ∙ e)
    ∙ ap (λ (vs : List (List ℕ)). record { plain = record { rank = rank; words = vs }; room = sum_by length ws; word_room = length ws }) (sym (take_more ws i w h))

pub made_own : (rank : ℕ) (ws : List (List ℕ)) (i : ℕ) (made : Tuple) → length ws ≤ i → made ≡ written rank ws i → made ≡ own_room (record { rank = rank; words = ws })
made_own rank ws i made h is = is ∙ ap (λ (vs : List (List ℕ)). record { plain = record { rank = rank; words = vs }; room = sum_by length ws; word_room = length ws }) (take_all i ws h)

-- ---- the order
pub words_start : (vs ws : List (List ℕ)) → slice_cmp word_cmp vs ws ≡ slice_cmp word_cmp (drop 0 vs) (drop 0 ws)
words_start vs ws = refl

step : (vs ws : List (List ℕ)) (i : ℕ) → i < length vs → i < length ws →
    slice_cmp word_cmp (drop i vs) (drop i ws) ≡ ordering_then (word_cmp (get_or vs i []) (get_or ws i [])) (slice_cmp word_cmp (drop (i + 1) vs) (drop (i + 1) ws))
step vs ws i h l =
    ap (λ u. slice_cmp word_cmp u (drop i ws)) (drop_more vs i [] h) ∙ ap (λ u. slice_cmp word_cmp (get_or vs i [] ∷ drop (i + 1) vs) u) (drop_more ws i [] l)

pub words_equal : (vs ws : List (List ℕ)) (i : ℕ) (o : Ordering) → slice_cmp word_cmp vs ws ≡ slice_cmp word_cmp (drop i vs) (drop i ws) → i < length vs → i < length ws →
    o ≡ word_cmp (get_or vs i []) (get_or ws i []) → o ≡ Equal → slice_cmp word_cmp vs ws ≡ slice_cmp word_cmp (drop (i + 1) vs) (drop (i + 1) ws)
words_equal vs ws i o e h l r q = e ∙ step vs ws i h l ∙ ap (λ p. ordering_then p (slice_cmp word_cmp (drop (i + 1) vs) (drop (i + 1) ws))) (sym r ∙ q)

first_decides : (o p : Ordering) → o ≢ Equal → ordering_then o p ≡ o
first_decides Less p n = refl
first_decides Equal p n = absurd (n refl)
first_decides Greater p n = refl

pub words_first : (vs ws : List (List ℕ)) (i : ℕ) (o : Ordering) → slice_cmp word_cmp vs ws ≡ slice_cmp word_cmp (drop i vs) (drop i ws) → i < length vs → i < length ws →
    o ≡ word_cmp (get_or vs i []) (get_or ws i []) → o ≢ Equal → o ≡ slice_cmp word_cmp vs ws
words_first vs ws i o e h l r n =
    sym (e ∙ step vs ws i h l ∙ ap (λ p. ordering_then p (slice_cmp word_cmp (drop (i + 1) vs) (drop (i + 1) ws))) (sym r) ∙ first_decides o (slice_cmp word_cmp (drop (i + 1) vs) (drop (i + 1) ws)) n)

ends_cmp : (vs ws : List (List ℕ)) → (length vs ≡ 0) ⊎ (length ws ≡ 0) → nat_cmp (length vs) (length ws) ≡ slice_cmp word_cmp vs ws
ends_cmp [] [] h = refl
ends_cmp [] (w ∷ ws) h = less (length (w ∷ ws)) (omega arith)
  where
    less : (n : ℕ) → 0 < n → nat_cmp 0 n ≡ Less
    less n h = grind (arith, nat_tests)
ends_cmp (v ∷ vs) [] h = more (length (v ∷ vs)) (omega arith)
  where
    more : (n : ℕ) → 0 < n → nat_cmp n 0 ≡ Greater
    more n h = grind (arith, nat_tests)
ends_cmp (v ∷ vs) (w ∷ ws) h = absurd (elim h [
  | inl e ↦ omega (arith, e)
  | inr e ↦ omega (arith, e)
])

shift_cmp : (m n i : ℕ) → i ≤ m → i ≤ n → nat_cmp m n ≡ nat_cmp (m - i) (n - i)
shift_cmp m n i h l = grind (arith, nat_tests)

pub words_end : (vs ws : List (List ℕ)) (i : ℕ) → slice_cmp word_cmp vs ws ≡ slice_cmp word_cmp (drop i vs) (drop i ws) → i ≤ length vs → i ≤ length ws →
    (length vs ≡ i) ⊎ (length ws ≡ i) → nat_cmp (length vs) (length ws) ≡ slice_cmp word_cmp vs ws
words_end vs ws i e h l d =
    shift_cmp (length vs) (length ws) i h l
    ∙ ap (λ n. nat_cmp n (length ws - i)) (sym (length-drop i vs)) ∙ ap (λ n. nat_cmp (length (drop i vs)) n) (sym (length-drop i ws))
    ∙ ends_cmp (drop i vs) (drop i ws) (elim d [
      | inl q ↦ inl (omega (arith, q, length-drop i vs))
      | inr q ↦ inr (omega (arith, q, length-drop i ws))
    ])
    ∙ sym e

pub tuple_tied : (s t : TupleData) (o p : Ordering) → o ≡ nat_cmp s.rank t.rank → o ≡ Equal → p ≡ slice_cmp word_cmp s.words t.words → p ≡ tuple_cmp s t
tuple_tied s t o p e q r = r ∙ sym (ap (λ x. ordering_then x (slice_cmp word_cmp s.words t.words)) (sym e ∙ q))
