-- A basis that no multiplication of one word by another makes lighter: less than a whole word cancels between neighbours, after Lyndon and Schupp, I.2.
use Rattle.std.proofs.Common.{◌≡◌, ◌≢◌, ℕ, ◌+◌, ◌*◌, ◌<◌, ◌≤◌, List, [], sym, ap, ap₂, subst, inl, inr, ◌∙◌, arith, length, length-append}
use Rattle.std.proofs.lemmas.Bool.{cases_eq, cases_lt}
use Rattle.std.specs.Prelude.{◌++◌}
use Rattle.wh_words.specs.Letters.{inverse_letter}
use Rattle.wh_words.specs.Words.{free_reduction, IsReduced, IsOfRank}
use Rattle.wh_words.proofs.FreeReduction.{inverse-inverse}
use Rattle.wh_words.proofs.StoredWords.{free_reduction-of_rank}
use Rattle.wh_words.proofs.LetterMaps.{inverse_below}
use Rattle.std.proofs.lemmas.List.Elements.{All-append}
use Rattle.wh_peak.proofs.FreeWords.{run, inverse_of, inverse_of-append, inverse_of-inverse_of, inverse_of-right}
use Rattle.wh_peak.proofs.Substitutions.{Substitution}
use Rattle.wh_nielsen.proofs.CommonFronts.{unique, reduces_to, SameParts, same_parts, inverse_of-length, Differ-turn, meet, common, common-turn, Fork, fork, cancel_front, square}
use Rattle.wh_nielsen.proofs.WordNumbers.{num, num-one, weight, weight-inverse, weight-shorter, weight-front}
use Rattle.wh_nielsen.proofs.Bases.{Basis, turned, something, front_of_rank, back_of_rank}
use Rattle.wh_nielsen.proofs.LongWords.{IsNielsen}
use Rattle.wh_words.proofs.Turning.{back-reduced}
use Rattle.wh_peak.proofs.AlikeMoves.{inverse_of-of_rank}

-- No product of a word with one of another generator is lighter than the word.
abbrev pub IsLightest : ℕ → Substitution → Type 0
IsLightest n W = (y z : ℕ) → y < 2 * n → z < 2 * n → z ≢ y → z ≢ inverse_letter y → weight n (W.of y) ≤ weight n (free_reduction (W.of y ++ W.of z))

other_way : (x s : ℕ) → s ≢ inverse_letter x → x ≢ inverse_letter s
other_way x s m e = m (sym (inverse-inverse s) ∙ ap inverse_letter (sym e))

module _ (n : ℕ) (W V : Substitution) (b : Basis n W V) (light : IsLightest n W) where
  module _ (x s : ℕ) (lx : x < 2 * n) (ls : s < 2 * n) (f : Fork (W.of x) (W.of s)) where
    -- The word of the inverse of s.
    back : W.of (inverse_letter s) ≡ inverse_of (f.front ++ f.right)
    back = turned n W V b s ls ∙ ap inverse_of f.right_is

    product : free_reduction (W.of (inverse_letter s) ++ W.of x) ≡ inverse_of f.right ++ f.left
    product =
        ap₂ (λ u v. free_reduction (u ++ v)) back f.left_is
        ∙ reduces_to (inverse_of (f.front ++ f.right) ++ (f.front ++ f.left)) (inverse_of f.right ++ f.left) (cancel_front f.right f.front f.left)
        (meet f.right f.left (back-reduced f.front f.right (subst IsReduced f.right_is (b.reduced s ls))) (back-reduced f.front f.left (subst IsReduced f.left_is (b.reduced x lx)))
        (Differ-turn f.left f.right f.differ))

    product_of_rank : IsOfRank n (inverse_of f.right ++ f.left)
    product_of_rank =
        subst (IsOfRank n) product (free_reduction-of_rank n (W.of (inverse_letter s) ++ W.of x)
        (All-append (λ y. y < 2 * n) (W.of (inverse_letter s)) (W.of x) (b.of_rank (inverse_letter s) (inverse_below n s ls)) (b.of_rank x lx)))

    pub left_length : length (W.of x) ≡ length f.front + length f.left
    left_length = ap length f.left_is ∙ length-append f.front f.left

    pub right_length : length (W.of s) ≡ length f.front + length f.right
    right_length = ap length f.right_is ∙ length-append f.front f.right

    module _ (ne : s ≢ x) (ne' : s ≢ inverse_letter x) where
      no_lighter : weight n (f.front ++ f.right) ≤ weight n (inverse_of f.right ++ f.left)
      no_lighter =
          let l : weight n (W.of (inverse_letter s)) ≤ weight n (free_reduction (W.of (inverse_letter s) ++ W.of x)) =
          light (inverse_letter s) x (inverse_below n s ls) lx (other_way x s ne') (λ e. ne (sym (e ∙ inverse-inverse s))) in
          omega (arith, l, ap (weight n) back, weight-inverse n (f.front ++ f.right), ap (weight n) product)

      -- At most half of the word of x is in the common front.
      pub front_half : length f.front ≤ length f.left
      front_half = elim (cases_lt (length f.left) (length f.front)) [
        | inr k ↦ k
        | inl k ↦ absurd (omega (
          arith,
          no_lighter,
          weight-shorter n (inverse_of f.right ++ f.left) (f.front ++ f.right) product_of_rank (inverse_of-of_rank n (inverse_of f.right ++ f.left) product_of_rank)
              (omega (arith, k, length-append (inverse_of f.right) f.left, length-append f.front f.right, inverse_of-length f.right)),
        ))
      ]

      -- Where the rest is as long as the front, the front is no greater than the inverse of the rest.
      pub front_less : (q : List ℕ) → f.left ≡ inverse_of q → length f.front ≡ length q → length f.front ≤ length f.right → num n f.front ≤ num n q
      front_less q e l m =
          let o : IsOfRank n (inverse_of q) = subst (IsOfRank n) e (back_of_rank n f.front f.left (subst (IsOfRank n) f.left_is (b.of_rank x lx))) in
          let p : inverse_of f.right ++ f.left ≡ inverse_of (q ++ f.right) = ap (λ t. inverse_of f.right ++ t) e ∙ sym (inverse_of-append q f.right) in
          weight-front n f.front q f.right o l m (omega (arith, no_lighter, ap (weight n) p, weight-inverse n (q ++ f.right)))

  -- ---- halves
  own_half : (x s : ℕ) → x < 2 * n → s ≡ inverse_letter x → common (W.of x) (W.of s) + common (W.of x) (W.of s) < length (W.of x)
  own_half x s lx e =
      let t : W.of s ≡ inverse_of (W.of x) = ap W.of e ∙ turned n W V b x lx in
      subst (λ (w : List ℕ). common (W.of x) w + common (W.of x) w < length (W.of x)) (sym t) (square (W.of x) (b.reduced x lx) (something n W V b x lx))

  half : (x s : ℕ) → x < 2 * n → s < 2 * n → s ≢ x → common (W.of x) (W.of s) + common (W.of x) (W.of s) ≤ length (W.of x)
  half x s lx ls ne = elim (cases_eq s (inverse_letter x)) [
    | inl e ↦ omega (arith, own_half x s lx e)
    | inr m ↦ (let f : Fork (W.of x) (W.of s) = fork (W.of x) (W.of s) in omega (arith, front_half x s lx ls f ne m, f.count, left_length x s lx ls f))
  ]

  turned_length : (x : ℕ) → x < 2 * n → length (W.of (inverse_letter x)) ≡ length (W.of x)
  turned_length x l = ap length (turned n W V b x l) ∙ inverse_of-length (W.of x)

  -- ---- no word goes away by halves
  module _ (x s t : ℕ) (lx : x < 2 * n) (ls : s < 2 * n) (lt : t < 2 * n) (ns : s ≢ x) (nt : t ≢ inverse_letter x) (ms : s ≢ inverse_letter x) (mt : t ≢ x)
      (f : Fork (W.of x) (W.of s)) (h : Fork (W.of (inverse_letter x)) (W.of t)) (all : length (W.of x) ≤ length f.front + length h.front) where
    lx' : inverse_letter x < 2 * n
    lx' = inverse_below n x lx

    mt' : t ≢ inverse_letter (inverse_letter x)
    mt' e = mt (e ∙ inverse-inverse x)

    a1 : length f.front + length f.front ≤ length (W.of x)
    a1 = omega (arith, half x s lx ls ns, f.count)

    a2 : length h.front + length h.front ≤ length (W.of x)
    a2 = omega (arith, half (inverse_letter x) t lx' lt nt, h.count, turned_length x lx)

    a3 : length f.front + length f.front ≤ length (W.of s)
    a3 = omega (arith, half s x ls lx (λ e. ns (sym e)), f.count, common-turn (W.of x) (W.of s))

    a4 : length h.front + length h.front ≤ length (W.of t)
    a4 = omega (arith, half t (inverse_letter x) lt lx' (λ e. nt (sym e)), h.count, common-turn (W.of (inverse_letter x)) (W.of t))

    n1 : length (W.of x) ≡ length f.front + length f.left
    n1 = left_length x s lx ls f

    n2 : length (W.of x) ≡ length h.front + length h.left
    n2 = sym (turned_length x lx) ∙ left_length (inverse_letter x) t lx' lt h

    both : SameParts f.front f.left (inverse_of h.left) (inverse_of h.front)
    both = same_parts f.front f.left (inverse_of h.left) (inverse_of h.front)
        (sym f.left_is ∙ (sym (inverse_of-inverse_of (W.of x)) ∙ (ap inverse_of (sym (turned n W V b x lx) ∙ h.left_is) ∙ inverse_of-append h.front h.left)))
        (omega (arith, all, a1, a2, n1, n2, inverse_of-length h.left))

    below : num n f.front ≤ num n h.front
    below = front_less x s lx ls f ns ms h.front both.second (omega (arith, all, a1, a2)) (omega (arith, a3, right_length x s lx ls f))

    above : num n h.front ≤ num n f.front
    above = front_less (inverse_letter x) t lx' lt h nt mt' f.front (sym (inverse_of-inverse_of h.left) ∙ ap inverse_of (sym both.first)) (omega (arith, all, a1, a2))
        (omega (arith, a4, right_length (inverse_letter x) t lx' lt h))

    one_front : f.front ≡ h.front
    one_front = num-one n f.front h.front
        (front_of_rank n f.front f.left (subst (IsOfRank n) f.left_is (b.of_rank x lx)))
        (front_of_rank n h.front h.left (subst (IsOfRank n) h.left_is (b.of_rank (inverse_letter x) lx')))
        (omega (arith, all, a1, a2)) (omega (arith, below, above))

    never : ⊥
    never = something n W V b x lx
        (let e : W.of x ≡ f.front ++ inverse_of f.front = f.left_is ∙ ap (λ v. f.front ++ v) (both.second ∙ ap inverse_of (sym one_front)) in
        unique (W.of x) [] (b.reduced x lx) tt (λ r. ap (λ w. run w r) e ∙ inverse_of-right f.front r))

  pub lightest_is_nielsen : IsNielsen n W
  lightest_is_nielsen x s t lx ls lt ns nt = elim (cases_lt (common (W.of x) (W.of s) + common (W.of (inverse_letter x)) (W.of t)) (length (W.of x))) [
    | inl l ↦ l
    | inr g ↦ elim (cases_eq s (inverse_letter x)) [
      | inl e ↦ absurd (omega (arith, g, own_half x s lx e, half (inverse_letter x) t (inverse_below n x lx) lt nt, turned_length x lx))
      | inr ms ↦ elim (cases_eq t x) [
        | inl e ↦ absurd (omega (arith, g, half x s lx ls ns, own_half (inverse_letter x) t (inverse_below n x lx) (e ∙ sym (inverse-inverse x)), turned_length x lx))
        | inr mt ↦ (let f : Fork (W.of x) (W.of s) = fork (W.of x) (W.of s) in
            let h : Fork (W.of (inverse_letter x)) (W.of t) = fork (W.of (inverse_letter x)) (W.of t) in
            absurd (never x s t lx ls lt ns nt ms mt f h (omega (arith, g, f.count, h.count))))
      ]
    ]
  ]
