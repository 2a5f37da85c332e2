-- Inner automorphisms as lists of moves: conjugation by a word of the rank.
use Rattle.std.proofs.Common.{◌≡◌, ◌≢◌, ℕ, zero, suc, ◌*◌, ◌/◌, ◌^◌, ◌≤◌, ◌<◌, List, [], ◌∷◌, refl, sym, ap, ap₂, subst, inl, inr, ◌∙◌, arith, append_assoc, append-nil, ne_eqb, map}
use Rattle.std.proofs.lemmas.Bool.{cases_eq}
use Rattle.std.proofs.lemmas.Nat.Bits.{bit_at-pow_other}
use Rattle.std.proofs.lemmas.List.Elements.{All-cons, All-head, All-tail, All-append}
use Rattle.std.specs.Prelude.{Bool, cond, not, eqb, ◌++◌}
use Rattle.std.specs.Int.{bit_at}
use Rattle.wh_words.specs.Letters.{inverse_letter}
use Rattle.wh_words.specs.Words.{IsOfRank}
use Rattle.wh_words.specs.Tuples.{TupleData, IsTuple, tuple_length}
use Rattle.wh_words.specs.Moves.{Kind, IsKind, Move, IsIdentityCut}
use Rattle.wh_words.specs.Moves.Kind.{cut}
use Rattle.wh_words.specs.Images.{image}
use Rattle.wh_words.specs.Action.{substitute, act}
use Rattle.wh_words.specs.Levels.{IsLevelMove}
use Rattle.wh_words.proofs.FreeReduction.{inverse-other}
use Rattle.wh_graph.proofs.SetNumbers.{mask, mask_bit, mask_cut}
use Rattle.wh_words.proofs.LetterMaps.{inverse_below}
use Rattle.wh_peak.specs.Equivalence.{IsMoveOfRank, AreMovesOfRank}
use Rattle.wh_words.specs.Composites.{substitute_all}
use Rattle.wh_peak.proofs.FreeWords.{put, cancel_left, cancel_right, run, run-append, Same, inverse_of}
use Rattle.wh_peak.proofs.ConjugatedCuts.{eqb-same}
use Rattle.wh_peak.proofs.InnerCuts.{inner}
use Rattle.wh_peak.proofs.ActionFacts.{normal, normal-same, normal-conjugate}
use Rattle.wh_peak.proofs.Actions.{AreCyclic}
use Rattle.wh_peak.proofs.KindSteps.{image-mask}
use Rattle.wh_peak.proofs.KindLists.{AreOfRank, one_letter}
use Rattle.wh_peak.proofs.MovesOfRank.{move_of_rank, none_of_rank, more_of_rank, cyclic_words, words_of_rank}
use Rattle.wh_peak.proofs.SameComposites.{substitute-same}

-- ---- one letter
-- Every letter but the inverse of y.
abbrev all_but : ℕ → ℕ → Bool
all_but y z = not (eqb z (inverse_letter y))

abbrev pub inner_kind : ℕ → ℕ → Kind
inner_kind n y = cut y (mask (2 * n) (all_but y))

abbrev pub inner_of : ℕ → ℕ → Move
inner_of n y = record { rank = n; kind = inner_kind n y }

pub inner-kind : (n y : ℕ) → y < 2 * n → IsKind n (inner_kind n y)
inner-kind n y l =
    mask_cut n y (all_but y) l (ap not (ne_eqb y (inverse_letter y) (λ e. inverse-other y (sym e)))) (ap not (eqb-same (inverse_letter y)))

pub inner-move : (n y : ℕ) → n ≤ 26 → y < 2 * n → IsMoveOfRank n (inner_of n y)
inner-move n y low l = move_of_rank n (inner_kind n y) low (inner-kind n y l)

-- It conjugates each letter of the rank by y.
inner-letter : (n y x : ℕ) → x < 2 * n → Same (image (inner_kind n y) x) (inverse_letter y ∷ x ∷ y ∷ [])
inner-letter n y x l r = ap (λ w. run w r) (image-mask n y (all_but y) x l) ∙ inner y x r

pub inner-word : (n y : ℕ) (w : List ℕ) → IsOfRank n w → Same (substitute (inner_kind n y) w) (inverse_letter y ∷ (w ++ y ∷ []))
unfolding run
inner-word n y [] h r = sym (cancel_right y r)
inner-word n y (x ∷ w) h r =
    run-append (image (inner_kind n y) x) (substitute (inner_kind n y) w) r
    ∙ (ap (run (image (inner_kind n y) x)) (inner-word n y w (All-tail (λ z. z < 2 * n) x w h) r)
    ∙ (inner-letter n y x (All-head (λ z. z < 2 * n) x w h) (run (inverse_letter y ∷ (w ++ y ∷ [])) r)
    ∙ ap (λ s. put (inverse_letter y) (put x s)) (cancel_left y (run (w ++ y ∷ []) r))))

-- ---- a word
abbrev pub inner_moves : ℕ → List ℕ → List Move
inner_moves n [] = []
inner_moves n (y ∷ g) = inner_of n y ∷ inner_moves n g

pub inner_moves-of_rank : (n : ℕ) → n ≤ 26 → (g : List ℕ) → IsOfRank n g → AreMovesOfRank n (inner_moves n g)
inner_moves-of_rank n low [] h = none_of_rank n
inner_moves-of_rank n low (y ∷ g) h =
    more_of_rank n (inner_of n y) (inner_moves n g) (inner-move n y low (All-head (λ z. z < 2 * n) y g h)) (inner_moves-of_rank n low g (All-tail (λ z. z < 2 * n) y g h))

-- The inner moves of the letters of g conjugate by g.
pub inner_moves-conjugate : (n : ℕ) → n ≤ 26 → (g : List ℕ) → IsOfRank n g → (w : List ℕ) → IsOfRank n w → Same (substitute_all (inner_moves n g) w) (inverse_of g ++ (w ++ g))
unfolding inverse_of run
inner_moves-conjugate n low [] hg w hw r = ap (λ v. run v r) (sym (append-nil w))
inner_moves-conjugate n low (y ∷ g) hg w hw r =
    let ly : y < 2 * n = All-head (λ z. z < 2 * n) y g hg in
    let rest : IsOfRank n g = All-tail (λ z. z < 2 * n) y g hg in
    let around : IsOfRank n (inverse_letter y ∷ (w ++ y ∷ [])) =
    All-cons (λ z. z < 2 * n) (inverse_letter y) (w ++ y ∷ []) (inverse_below n y ly) (All-append (λ z. z < 2 * n) w (y ∷ []) hw (one_letter n y ly)) in
    substitute-same n (inner_moves n g) (inner_moves-of_rank n low g rest) (substitute (inner_kind n y) w) (inverse_letter y ∷ (w ++ y ∷ [])) (inner-word n y w hw) r
    ∙ (inner_moves-conjugate n low g rest (inverse_letter y ∷ (w ++ y ∷ [])) around r
    ∙ (ap (λ v. run (inverse_of g ++ (inverse_letter y ∷ v)) r) (append_assoc w (y ∷ []) g)
    ∙ ap (λ v. run v r) (sym (append_assoc (inverse_of g) (inverse_letter y ∷ []) (w ++ y ∷ g)))))

-- ---- an inner move as a level move
-- It leaves every tuple as it is.
pub inner-fixes : (t : TupleData) (y : ℕ) → IsTuple t → act t (inner_of t.rank y) ≡ t
unfolding inverse_of
inner-fixes t y is = ap (λ (ws : List (List ℕ)). record { rank = t.rank; words = ws }) (go t.words (cyclic_words t is) (words_of_rank t is))
  where
    go : (u : List (List ℕ)) → AreCyclic u → AreOfRank t.rank u → map (λ w. normal (substitute (inner_kind t.rank y) w)) u ≡ u
    go [] c h = refl
    go (w ∷ u) c h = ap₂ (λ v vs. v ∷ vs)
        (normal-same (substitute (inner_kind t.rank y) w) (inverse_letter y ∷ (w ++ y ∷ [])) (inner-word t.rank y w h.0) ∙ (normal-conjugate (y ∷ []) w ∙ c.0))
        (go u c.1 h.1)

-- From rank 2 on it is no identity cut, since there is another letter.
another : (n y : ℕ) → 1 < n → (z : ℕ) × (z < 2 * n) × (z ≢ y) × (z ≢ inverse_letter y)
unfolding inverse_letter
another n y l = elim (cases_eq (y / 2) 0) [
  | inl e ↦ (2, omega arith, λ q. absurd (omega (arith, e, q)), λ q. absurd (omega (arith, e, q)))
  | inr k ↦ (0, omega arith, λ q. absurd (omega (arith, k, q)), λ q. absurd (omega (arith, k, q)))
]

pub inner-moves : (n y : ℕ) → 1 < n → ¬ (IsIdentityCut (inner_kind n y))
inner-moves n y l e =
    let z : (z : ℕ) × (z < 2 * n) × (z ≢ y) × (z ≢ inverse_letter y) = another n y l in
    let one : bit_at (mask (2 * n) (all_but y)) z.0 ≡ 1 = mask_bit (2 * n) (all_but y) z.0 z.1 ∙ ap (λ b. cond (not b) 1 0) (ne_eqb z.0 (inverse_letter y) z.3) in
    let none : bit_at (2 ^ y) z.0 ≡ 0 = bit_at-pow_other y z.0 z.2 in
    absurd (omega (arith, one, none, ap (λ s. bit_at s z.0) e))

pub inner-level : (t : TupleData) (y : ℕ) → IsTuple t → t.rank ≤ 26 → 1 < t.rank → y < 2 * t.rank → IsLevelMove t (inner_of t.rank y)
inner-level t y is low l h = record {
  valid = (inner-move t.rank y low h).valid;
  rank = refl;
  kept = ap tuple_length (inner-fixes t y is);
  moves = inner-moves t.rank y l;
}

-- ---- rank 1
-- The letters of rank 1 commute.
commute_letters : (x y : ℕ) → x < 2 → y < 2 → Same (x ∷ y ∷ []) (y ∷ x ∷ [])
unfolding run inverse_letter
commute_letters x y hx hy r = elim (cases_eq x y) [
  | inl e ↦ ap₂ (λ a b. put a (put b r)) e (sym e)
  | inr k ↦ (let i : y ≡ inverse_letter x = other x y hx hy k in
      subst (λ (z : ℕ). put x (put z r) ≡ put z (put x r)) (sym i) (cancel_left x r ∙ sym (cancel_right x r)))
]
  where
    other : (x y : ℕ) → x < 2 → y < 2 → x ≢ y → y ≡ inverse_letter x
    other zero zero hx hy k = absurd (k refl)
    other zero (suc zero) hx hy k = refl
    other (suc zero) zero hx hy k = refl
    other (suc zero) (suc zero) hx hy k = absurd (k refl)
    other (suc (suc x)) y hx hy k = absurd (omega (arith, hx))
    other x (suc (suc y)) hx hy k = absurd (omega (arith, hy))

past_letter : (y : ℕ) → y < 2 → (w : List ℕ) → IsOfRank 1 w → Same (w ++ y ∷ []) (y ∷ w)
unfolding run
past_letter y l [] h r = refl
past_letter y l (x ∷ w) h r =
    ap (put x) (past_letter y l w (All-tail (λ z. z < 2 * 1) x w h) r)
    ∙ commute_letters x y (omega (arith, All-head (λ z. z < 2 * 1) x w h)) l (run w r)

-- Conjugation is the identity at rank 1.
pub conjugate-one : (g w : List ℕ) → IsOfRank 1 g → IsOfRank 1 w → Same w (inverse_of g ++ (w ++ g))
unfolding inverse_of run
conjugate-one [] w hg hw r = ap (λ v. run v r) (sym (append-nil w))
conjugate-one (y ∷ g) w hg hw r =
    let l : y < 2 = omega (arith, All-head (λ z. z < 2 * 1) y g hg) in
    conjugate-one g w (All-tail (λ z. z < 2 * 1) y g hg) hw r
    ∙ (run-append (inverse_of g) (w ++ g) r
    ∙ (ap (run (inverse_of g)) (sym (cancel_right y (run (w ++ g) r))
    ∙ ap (put (inverse_letter y)) (ap (put y) (run-append w g r) ∙ (sym (past_letter y l w hw (run g r)) ∙ (sym (run-append (w ++ y ∷ []) g r) ∙ ap (λ v. run v r) (append_assoc w (y ∷ []) g)))))
    ∙ (sym (run-append (inverse_of g) (inverse_letter y ∷ (w ++ y ∷ g)) r)
    ∙ ap (λ v. run v r) (sym (append_assoc (inverse_of g) (inverse_letter y ∷ []) (w ++ y ∷ g))))))
