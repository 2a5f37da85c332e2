-- The pass round a cyclic word is cyclically reduced, and how long it is.
use Rattle.std.proofs.Common.{◌≡◌, ℕ, ◌+◌, Bool, true, false, cond, List, [], ◌∷◌, ◌++◌, length, refl, sym, ap, ◌∙◌, subst, arith, append_assoc, length-append}
use Rattle.std.specs.List.{flat_map}
use Rattle.wh_words.specs.Letters.{inverse_letter}
use Rattle.wh_words.specs.Words.{IsReduced}
use Rattle.wh_words.specs.CyclicWords.{cyclic_reduction, cyclic_word, cyclic_core, ends_cancel, IsCyclicallyReduced, IsLeastRotation}
use Rattle.wh_words.proofs.FreeReduction.{turned, free_reduction-same, front-reduced}
use Rattle.wh_words.proofs.Turning.{Ends, ends, other_ends, cyclic_core-other, last_two}
use Rattle.wh_words.proofs.Turning.Ends.{none, one, two}
use Rattle.wh_words.proofs.Rotations.{least_rotation-is}
use Rattle.wh_words.proofs.StoredWords.{rotate-length}
use Rattle.wh_words.specs.Passes.{kept, is_other, junction, junction_of, pass, last_or}
use Rattle.wh_words.proofs.OnePass.{spread, pass-round}
use Rattle.wh_words.proofs.PassReduced.{pass-good}

-- two reduced words, of which the second may follow the first
reduced_join : (a : ℕ) (has : ℕ → Bool) (p : ℕ) (u v : List ℕ) → IsReduced (p ∷ u) → IsReduced (last_or a has p u ∷ v) → IsReduced (p ∷ (u ++ v))
reduced_join a has p [] v r s = s
reduced_join a has p (x ∷ u) v r s = (r.0, reduced_join a has x u v r.1 s)

pub pass-append : (a : ℕ) (has : ℕ → Bool) (p : ℕ) (u v : List ℕ) → pass a has p (u ++ v) ≡ pass a has p u ++ pass a has (last_or a has p u) v
pass-append a has p [] v = refl
pass-append a has p (x ∷ u) v =
    ap (λ t. junction a has p x ++ (kept a has x ++ t)) (pass-append a has x u v)
    ∙ sym (append_assoc (junction a has p x) (kept a has x ++ pass a has x u) (pass a has (last_or a has x u) v)
    ∙ ap (λ t. junction a has p x ++ t) (append_assoc (kept a has x) (pass a has x u) (pass a has (last_or a has x u) v)))

-- a word that may follow itself has no ends that cancel
doubled_open : (r : List ℕ) → Ends r → IsReduced (r ++ r) → ends_cancel r ≡ false
doubled_open r none h = refl
doubled_open r (one x) h = refl
doubled_open r (two x m y) h =
    other_ends x m y (λ e. last_two (x ∷ m) y x
    (front-reduced (x ∷ (m ++ y ∷ x ∷ [])) (m ++ y ∷ []) (subst IsReduced (ap (λ t. x ∷ t) (append_assoc m (y ∷ []) (x ∷ (m ++ y ∷ [])) ∙ sym (append_assoc m (y ∷ x ∷ []) (m ++ y ∷ [])))) h))
    (turned y x e))

module _ (a : ℕ) (has : ℕ → Bool) (holds : has a ≡ true) (omits : has (inverse_letter a) ≡ false) where
  pub round-reduced : (x : ℕ) (w : List ℕ) → IsReduced (last_or a has x w ∷ x ∷ w) → IsCyclicallyReduced (pass a has (last_or a has x w) (x ∷ w))
  round-reduced x w r =
      let p : ℕ = last_or a has x w in
      let g : IsReduced (pass a has p (x ∷ w)) = (pass-good a has holds omits p (x ∷ w) r).reduced in
      let twice : IsReduced (pass a has p ((x ∷ w) ++ (x ∷ w))) = (pass-good a has holds omits p ((x ∷ w) ++ (x ∷ w)) (reduced_join a has p (x ∷ w) (x ∷ w) r r)).reduced in
      (g, doubled_open (pass a has p (x ∷ w)) (ends (pass a has p (x ∷ w))) (subst IsReduced (pass-append a has p (x ∷ w) (x ∷ w)) twice))

  -- how many letters stay, and how many junctions leave one
  abbrev pub stay : List ℕ → ℕ
  stay [] = 0
  stay (x ∷ w) = cond (is_other a has x) 1 0 + stay w

  abbrev pub differ : Bool → Bool → ℕ
  differ true true = 0
  differ true false = 1
  differ false true = 1
  differ false false = 0

  abbrev pub crossings : ℕ → List ℕ → ℕ
  crossings p [] = 0
  crossings p (x ∷ w) = differ (has p) (has (inverse_letter x)) + crossings x w

  junction-length : (b c : Bool) → length (junction_of a has b c) ≡ differ b c
  junction-length true true = refl
  junction-length true false = refl
  junction-length false true = refl
  junction-length false false = refl

  kept-length : (b : Bool) (x : ℕ) → length (cond b (x ∷ []) []) ≡ cond b 1 0
  kept-length true x = refl
  kept-length false x = refl

  pub pass-length : (p : ℕ) (w : List ℕ) → length (pass a has p w) ≡ crossings p w + stay w
  pass-length p [] = omega arith
  pass-length p (x ∷ w) =
      omega (
        arith,
        length-append (junction a has p x) (kept a has x ++ pass a has x w),
        length-append (kept a has x) (pass a has x w),
        junction-length (has p) (has (inverse_letter x)),
        kept-length (is_other a has x) x,
        pass-length x w,
      )

  -- the length of the cyclic word after a cut
  pub cut-length : (x : ℕ) (w : List ℕ) → IsReduced (last_or a has x w ∷ x ∷ w) →
      length (cyclic_word (flat_map (spread a has) (x ∷ w))) ≡ crossings (last_or a has x w) (x ∷ w) + stay (x ∷ w)
  cut-length x w r =
      let round : List ℕ = pass a has (last_or a has x w) (x ∷ w) in
      let good : IsCyclicallyReduced round = round-reduced x w r in
      let whole : cyclic_reduction round ≡ round = ap cyclic_core (free_reduction-same round good.0) ∙ cyclic_core-other round good.1 in
      let least : IsLeastRotation (cyclic_reduction round) (cyclic_word round) = least_rotation-is (cyclic_reduction round) in
      ap length (pass-round a has x w ∙ least.there.2) ∙ rotate-length least.there.0 (cyclic_reduction round) ∙ ap length whole ∙ pass-length (last_or a has x w) (x ∷ w)
