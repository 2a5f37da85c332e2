-- In a basis where less than a whole word cancels between two neighbours, products are no shorter than the number of their factors, after Lyndon and Schupp, I.2.
use Rattle.std.proofs.Common.{◌≡◌, ◌≢◌, ℕ, ◌+◌, ◌*◌, ◌<◌, ◌≤◌, List, [], ◌∷◌, sym, ap, subst, ◌∙◌, arith, length, length-append, append-nil, append_assoc}
use Rattle.std.proofs.lemmas.List.Elements.{All-head, All-tail}
use Rattle.std.specs.Prelude.{◌++◌}
use Rattle.std.specs.List.{flat_map}
use Rattle.wh_words.specs.Letters.{inverse_letter}
use Rattle.wh_words.specs.Words.{free_reduction, IsReduced, IsOfRank, StartsOtherThan}
use Rattle.wh_words.proofs.FreeReduction.{free_reduction-same, free_reduction-reduced}
use Rattle.wh_words.proofs.LetterMaps.{inverse_below}
use Rattle.wh_peak.proofs.FreeWords.{run, run-append, Same, inv_ne, inverse_of, inverse_of-append, inverse_of-inverse_of}
use Rattle.wh_peak.proofs.Substitutions.{Substitution}
use Rattle.wh_nielsen.proofs.CommonFronts.{reduces_to, same_reduced, Longer, longer, inverse_of-length, Differ, Differ-turn, meet, common, common-turn, Fork, fork, cancel_front}
use Rattle.wh_nielsen.proofs.Bases.{Basis, turned}
use Rattle.wh_words.proofs.Turning.{back-reduced}

-- Between two neighbours, less than a whole word cancels.
abbrev pub IsNielsen : ℕ → Substitution → Type 0
IsNielsen n W = (x s t : ℕ) → x < 2 * n → s < 2 * n → t < 2 * n → s ≢ x → t ≢ inverse_letter x → common (W.of x) (W.of s) + common (W.of (inverse_letter x)) (W.of t) < length (W.of x)

-- The product for a reduced word: it begins with more of its first factor than cancels with any factor before it, and then has a letter at least for each factor.
pub record Long (n : ℕ) (W : Substitution) (y : ℕ) (v : List ℕ) : Type 0 where
  pub kept : List ℕ
  pub lost : List ℕ
  pub rest : List ℕ
  pub is : free_reduction (flat_map W.of (y ∷ v)) ≡ kept ++ rest
  pub parts : W.of y ≡ kept ++ lost
  pub enough : (z : ℕ) → z < 2 * n → z ≢ y → common (W.of y) (W.of z) < length kept
  pub count : length v ≤ length rest

module _ (n : ℕ) (W V : Substitution) (b : Basis n W V) (h : IsNielsen n W) where
  one_factor : (y : ℕ) → y < 2 * n → Long n W y []
  one_factor y l = record {
    kept = W.of y;
    lost = [];
    rest = [];
    is = ap free_reduction (append-nil (W.of y)) ∙ (free_reduction-same (W.of y) (b.reduced y l) ∙ sym (append-nil (W.of y)));
    parts = sym (append-nil (W.of y));
    enough = λ z k m. omega (arith, h y z y l k l m (inv_ne y));
    count = omega arith;
  }

  module _ (y z : ℕ) (v : List ℕ) (ly : y < 2 * n) (lz : z < 2 * n) (other : z ≢ inverse_letter y) (i : Long n W z v) (f : Fork (W.of z) (W.of (inverse_letter y))) where
    whole : W.of y ≡ inverse_of (f.front ++ f.right)
    whole =
        sym (inverse_of-inverse_of (W.of y)) ∙ (ap inverse_of (sym (turned n W V b y ly)) ∙ ap inverse_of f.right_is)

    more : (d : List ℕ) → i.kept ≡ f.front ++ d → f.left ≡ d ++ i.lost → length f.front < length i.kept → Long n W y (z ∷ v)
    more [] e g l = absurd (omega (arith, l, ap length e, length-append f.front []))
    more (c ∷ d) e g l =
        let front : free_reduction (flat_map W.of (z ∷ v)) ≡ f.front ++ ((c ∷ d) ++ i.rest) = i.is ∙ (ap (λ u. u ++ i.rest) e ∙ append_assoc f.front (c ∷ d) i.rest) in
        let same : Same (flat_map W.of (y ∷ z ∷ v)) (inverse_of f.right ++ ((c ∷ d) ++ i.rest)) = λ r.
        run-append (W.of y) (flat_map W.of (z ∷ v)) r
        ∙ (ap (run (W.of y)) (sym (same_reduced (flat_map W.of (z ∷ v)) r) ∙ ap (λ u. run u r) front)
        ∙ (ap (λ u. run u (run (f.front ++ ((c ∷ d) ++ i.rest)) r)) whole
        ∙ (sym (run-append (inverse_of (f.front ++ f.right)) (f.front ++ ((c ∷ d) ++ i.rest)) r)
        ∙ cancel_front f.right f.front ((c ∷ d) ++ i.rest) r))) in
        let right_reduced : IsReduced f.right = back-reduced f.front f.right (subst IsReduced f.right_is (b.reduced (inverse_letter y) (inverse_below n y ly))) in
        let rest_reduced : IsReduced ((c ∷ d) ++ i.rest) = back-reduced f.front ((c ∷ d) ++ i.rest) (subst IsReduced front (free_reduction-reduced (flat_map W.of (z ∷ v)))) in
        let apart : StartsOtherThan c f.right = subst (λ (s : List ℕ). Differ s f.right) g f.differ in
        let n1 : length (W.of y) ≡ length f.front + length f.right = ap length whole ∙ (inverse_of-length (f.front ++ f.right) ∙ length-append f.front f.right) in
        record {
          kept = inverse_of f.right;
          lost = inverse_of f.front;
          rest = (c ∷ d) ++ i.rest;
          is = reduces_to (flat_map W.of (y ∷ z ∷ v)) (inverse_of f.right ++ ((c ∷ d) ++ i.rest)) same
              (meet f.right ((c ∷ d) ++ i.rest) right_reduced rest_reduced (Differ-turn ((c ∷ d) ++ i.rest) f.right apart));
          parts = whole ∙ inverse_of-append f.front f.right;
          enough = λ x k m. omega (arith, h y x z ly k lz m other, n1, f.count, common-turn (W.of z) (W.of (inverse_letter y)), inverse_of-length f.right);
          count = omega (arith, i.count, length-append (c ∷ d) i.rest);
        }

    pub one_more : Long n W y (z ∷ v)
    one_more =
        let l : length f.front < length i.kept = omega (arith, f.count, i.enough (inverse_letter y) (inverse_below n y ly) (λ e. other (sym e))) in
        let g : Longer f.front f.left i.kept i.lost = longer f.front f.left i.kept i.lost (sym f.left_is ∙ i.parts) (omega (arith, l)) in
        more g.rest g.first g.second l

  pub long : (y : ℕ) (v : List ℕ) → IsOfRank n (y ∷ v) → IsReduced (y ∷ v) → Long n W y v
  long y [] o r = one_factor y (All-head (λ x. x < 2 * n) y [] o)
  long y (z ∷ v) o r =
      let t : IsOfRank n (z ∷ v) = All-tail (λ x. x < 2 * n) y (z ∷ v) o in
      one_more y z v (All-head (λ x. x < 2 * n) y (z ∷ v) o) (All-head (λ x. x < 2 * n) z v t) r.0 (long z v t r.1) (fork (W.of z) (W.of (inverse_letter y)))

  -- A product of words is no shorter than the number of its factors.
  pub no_shorter : (u : List ℕ) → IsOfRank n u → IsReduced u → length u ≤ length (free_reduction (flat_map W.of u))
  no_shorter [] o r = omega arith
  no_shorter (y ∷ v) o r =
      let i : Long n W y v = long y v o r in
      let l : y < 2 * n = All-head (λ x. x < 2 * n) y v o in
      omega (arith, ap length i.is, length-append i.kept i.rest, i.count, i.enough (inverse_letter y) (inverse_below n y l) (λ e. inv_ne y (sym e)))
