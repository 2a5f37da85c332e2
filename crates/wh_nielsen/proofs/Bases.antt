-- Bases of a free group as substitutions that undo each other.
use Rattle.std.proofs.lemmas.List.Concat.{flat_map-append}
use Rattle.std.proofs.Common.{◌≡◌, ◌≢◌, ℕ, ◌*◌, ◌<◌, List, [], ◌∷◌, refl, sym, ap, ◌∙◌, arith, length}
use Rattle.std.proofs.lemmas.List.Elements.{All-nil, All-cons, All-head, All-tail, All-append}
use Rattle.std.specs.Prelude.{◌++◌}
use Rattle.std.specs.List.{flat_map}
use Rattle.wh_words.specs.Letters.{inverse_letter}
use Rattle.wh_words.specs.Words.{free_reduction, IsReduced, IsOfRank}
use Rattle.wh_words.proofs.FreeReduction.{free_reduction-reduced}
use Rattle.wh_words.proofs.StoredWords.{free_reduction-of_rank}
use Rattle.wh_words.proofs.LetterMaps.{inverse_below}
use Rattle.wh_peak.proofs.FreeWords.{run, Same, Same-append, red_of, inverse_of, inverse_of-unique}
use Rattle.wh_peak.proofs.Substitutions.{Substitution, flat_map-same}
use Rattle.wh_nielsen.proofs.CommonFronts.{unique, same_reduced, inverse_of-reduced}

-- ---- letters of a rank
pub front_of_rank : (n : ℕ) (u v : List ℕ) → IsOfRank n (u ++ v) → IsOfRank n u
front_of_rank n [] v h = All-nil (λ y. y < 2 * n)
front_of_rank n (x ∷ u) v h = All-cons (λ y. y < 2 * n) x u (All-head (λ y. y < 2 * n) x (u ++ v) h) (front_of_rank n u v (All-tail (λ y. y < 2 * n) x (u ++ v) h))

pub back_of_rank : (n : ℕ) (u v : List ℕ) → IsOfRank n (u ++ v) → IsOfRank n v
back_of_rank n [] v h = h
back_of_rank n (x ∷ u) v h = back_of_rank n u v (All-tail (λ y. y < 2 * n) x (u ++ v) h)

-- The images of the letters of a rank are of the rank.
abbrev pub Keeps : ℕ → (ℕ → List ℕ) → Type 0
Keeps n f = (x : ℕ) → x < 2 * n → IsOfRank n (f x)

pub flat_map-of_rank : (n : ℕ) (f : ℕ → List ℕ) → Keeps n f → (w : List ℕ) → IsOfRank n w → IsOfRank n (flat_map f w)
flat_map-of_rank n f k [] h = All-nil (λ y. y < 2 * n)
flat_map-of_rank n f k (x ∷ w) h = All-append (λ y. y < 2 * n) (f x) (flat_map f w) (k x (All-head (λ y. y < 2 * n) x w h)) (flat_map-of_rank n f k w (All-tail (λ y. y < 2 * n) x w h))

-- ---- one substitution after another
-- The reduced images under one substitution and then another.
unfoldable pub compose : Substitution → Substitution → Substitution
compose k m = record {
  of = λ x. free_reduction (flat_map m.of (k.of x));
  goes = λ y r.
      Same-append (free_reduction (flat_map m.of (k.of y))) (flat_map m.of (k.of y)) (free_reduction (flat_map m.of (k.of (inverse_letter y)))) (flat_map m.of (k.of (inverse_letter y)))
      (same_reduced (flat_map m.of (k.of y))) (same_reduced (flat_map m.of (k.of (inverse_letter y)))) r
      ∙ (ap (λ w. run w r) (sym (flat_map-append m.of (k.of y) (k.of (inverse_letter y)))) ∙ flat_map-same m (k.of y ++ k.of (inverse_letter y)) [] (k.goes y) r);
}

pub compose-words : (k m : Substitution) (u : List ℕ) → Same (flat_map (compose k m).of u) (flat_map m.of (flat_map k.of u))
unfolding compose
compose-words k m [] r = refl
compose-words k m (x ∷ u) r =
    Same-append (free_reduction (flat_map m.of (k.of x))) (flat_map m.of (k.of x)) (flat_map (compose k m).of u) (flat_map m.of (flat_map k.of u)) (same_reduced (flat_map m.of (k.of x))) (compose-words k m u) r
    ∙ ap (λ w. run w r) (sym (flat_map-append m.of (k.of x) (flat_map k.of u)))

-- The second substitution undoes the first on the letters of a rank.
abbrev pub Undoing : ℕ → Substitution → Substitution → Type 0
Undoing n k j = (x : ℕ) → x < 2 * n → Same (flat_map j.of (k.of x)) (x ∷ [])

pub undoing-words : (n : ℕ) (k j : Substitution) → Undoing n k j → (u : List ℕ) → IsOfRank n u → Same (flat_map j.of (flat_map k.of u)) u
undoing-words n k j h [] o r = refl
undoing-words n k j h (x ∷ u) o r =
    ap (λ w. run w r) (flat_map-append j.of (k.of x) (flat_map k.of u))
    ∙ Same-append (flat_map j.of (k.of x)) (x ∷ []) (flat_map j.of (flat_map k.of u)) u (h x (All-head (λ y. y < 2 * n) x u o)) (undoing-words n k j h u (All-tail (λ y. y < 2 * n) x u o)) r

-- ---- bases
-- Reduced images of the letters of rank n, and reduced images that undo them.
pub record Basis (n : ℕ) (W V : Substitution) : Type 0 where
  pub of_rank : Keeps n W.of
  pub inverse_of_rank : Keeps n V.of
  pub reduced : (x : ℕ) → x < 2 * n → IsReduced (W.of x)
  pub inverse_reduced : (x : ℕ) → x < 2 * n → IsReduced (V.of x)
  pub undone : Undoing n W V
  pub redone : Undoing n V W

pub turned : (n : ℕ) (W V : Substitution) → Basis n W V → (x : ℕ) → x < 2 * n → W.of (inverse_letter x) ≡ inverse_of (W.of x)
turned n W V b x l =
    unique (W.of (inverse_letter x)) (inverse_of (W.of x)) (b.reduced (inverse_letter x) (inverse_below n x l)) (inverse_of-reduced (W.of x) (b.reduced x l))
    (inverse_of-unique (W.of x) (W.of (inverse_letter x)) (W.goes x))

-- A basis after a substitution of letters that has an inverse.
pub changed : (n : ℕ) (W V k j : Substitution) → Basis n W V → Keeps n k.of → Keeps n j.of → Undoing n k j → Undoing n j k → Basis n (compose k W) (compose V j)
unfolding compose
changed n W V k j b hk hj kj jk = record {
  of_rank = λ x l. free_reduction-of_rank n (flat_map W.of (k.of x)) (flat_map-of_rank n W.of b.of_rank (k.of x) (hk x l));
  inverse_of_rank = λ x l. free_reduction-of_rank n (flat_map j.of (V.of x)) (flat_map-of_rank n j.of hj (V.of x) (b.inverse_of_rank x l));
  reduced = λ x l. free_reduction-reduced (flat_map W.of (k.of x));
  inverse_reduced = λ x l. free_reduction-reduced (flat_map j.of (V.of x));
  undone = λ x l r.
      compose-words V j (free_reduction (flat_map W.of (k.of x))) r
      ∙ (flat_map-same j (flat_map V.of (free_reduction (flat_map W.of (k.of x)))) (k.of x)
      (λ s. flat_map-same V (free_reduction (flat_map W.of (k.of x))) (flat_map W.of (k.of x)) (same_reduced (flat_map W.of (k.of x))) s
      ∙ undoing-words n W V b.undone (k.of x) (hk x l) s) r
      ∙ kj x l r);
  redone = λ x l r.
      compose-words k W (free_reduction (flat_map j.of (V.of x))) r
      ∙ (flat_map-same W (flat_map k.of (free_reduction (flat_map j.of (V.of x)))) (V.of x)
      (λ s. flat_map-same k (free_reduction (flat_map j.of (V.of x))) (flat_map j.of (V.of x)) (same_reduced (flat_map j.of (V.of x))) s
      ∙ undoing-words n j k jk (V.of x) (b.inverse_of_rank x l) s) r
      ∙ b.redone x l r);
}

-- No letter of a basis goes to nothing.
pub something : (n : ℕ) (W V : Substitution) → Basis n W V → (x : ℕ) → x < 2 * n → W.of x ≢ []
something n W V b x l e = omega (arith, ap length (red_of [] (x ∷ []) (λ r. ap (λ w. run (flat_map V.of w) r) (sym e) ∙ b.undone x l r)))
