-- Each kind of move as a step of the theory.
use Rattle.wh_words.proofs.LetterMaps.{inverse_below}
use Rattle.wh_words.specs.Moves.{turned_set, inverse_kind, Kind, IsKind}
use Rattle.wh_moves.proofs.InverseMoves.{turned_holds, turned_omits, turned_other}
use Rattle.wh_graph.proofs.SetNumbers.{mask, mask_has, holds, omits}
use Rattle.std.proofs.Common.{◌≡◌, ℕ, ◌*◌, ◌<◌, ◌==◌, List, [], ◌∷◌, refl, sym, ap, ap₂, subst, inl, inr, ◌∙◌}
use Rattle.std.proofs.lemmas.Bool.{cases_eq}
use Rattle.std.specs.Prelude.{Bool, true, false, cond, ◌++◌}
use Rattle.std.specs.Int.{bit_at}
use Rattle.std.specs.List.{flat_map}
use Rattle.wh_words.specs.Letters.{inverse_letter}
use Rattle.wh_words.specs.LetterSets.{in_set}
use Rattle.wh_words.specs.Images.{swap_letter, invert_letter, image}
use Rattle.wh_words.specs.Action.{substitute}
use Rattle.wh_words.specs.Moves.Kind.{swap, invert, cut}
use Rattle.wh_words.proofs.FreeReduction.{inverse-inverse}
use Rattle.wh_peak.proofs.FreeWords.{power}
use Rattle.wh_peak.proofs.CutForms.{cut_letter, turned}
use Rattle.wh_peak.proofs.CutSubstitutions.{cut_letter-same}
use Rattle.wh_peak.proofs.CutsOfOneGenerator.{turned-away, turned-cut}
use Rattle.wh_peak.proofs.DisjointCuts.{is-neither}
use Rattle.wh_peak.proofs.Steps.{Step, substitution, back}
use Rattle.wh_peak.proofs.CutSubstitutions.{same_generator}
use Rattle.wh_words.proofs.LetterMaps.{swap_back, invert_back}
use Rattle.wh_graph.specs.Laws.{is_of}
use Rattle.wh_peak.proofs.Steps.Step.{cuts, maps}
use Rattle.wh_words.proofs.Mapped.{swap_turns, invert_turns}

-- ---- the image of a cut
cond_pw : (b : Bool) (a : ℕ) → cond b (a ∷ []) [] ≡ power b a
cond_pw true a = refl
cond_pw false a = refl

pub image-cut : (a s x : ℕ) → image (cut a s) x ≡ cut_letter a (in_set s) x
image-cut a s x =
    ap (λ b. cond b (x ∷ []) (cond (in_set s (inverse_letter x)) (inverse_letter a ∷ []) [] ++ (x ∷ cond (in_set s x) (a ∷ []) []))) (same_generator a x)
    ∙ ap₂ (λ u v. cond (is_of a x) (x ∷ []) (u ++ (x ∷ v))) (cond_pw (in_set s (inverse_letter x)) (inverse_letter a)) (cond_pw (in_set s x) a)

pub cut_letter-below : (n a : ℕ) (A B : ℕ → Bool) → ((y : ℕ) → y < 2 * n → A y ≡ B y) → (x : ℕ) → x < 2 * n → cut_letter a A x ≡ cut_letter a B x
cut_letter-below n a A B h x l = ap₂ (λ s t. cond (is_of a x) (x ∷ []) (power s (inverse_letter a) ++ (x ∷ power t a))) (h (inverse_letter x) (inverse_below n x l)) (h x l)

-- The image of a letter of the rank under the cut whose set is a number.
pub image-mask : (n a : ℕ) (A : ℕ → Bool) (x : ℕ) → x < 2 * n → image (cut a (mask (2 * n) A)) x ≡ cut_letter a A x
image-mask n a A x l = image-cut a (mask (2 * n) A) x ∙ cut_letter-below n a (in_set (mask (2 * n) A)) A (λ y m. mask_has (2 * n) A y m) x l

-- ---- each kind is a step
abbrev pub step_of : (n : ℕ) (k : Kind) → IsKind n k → Step
step_of n (swap k) h = maps (swap_letter k) (swap_letter k) (swap_turns k h.0) (swap_turns k h.0) (swap_back k h.0) (swap_back k h.0)
step_of n (invert k) h = maps (invert_letter k) (invert_letter k) (invert_turns k) (invert_turns k) (invert_back k) (invert_back k)
step_of n (cut a s) h = cuts a (in_set s) (record { has = holds s a h.holds; lacks = omits s (inverse_letter a) h.omits })

pub image-step : (n : ℕ) (k : Kind) (h : IsKind n k) (x : ℕ) → image k x ≡ (substitution (step_of n k h)).of x
image-step n (swap k) h x = refl
image-step n (invert k) h x = refl
image-step n (cut a s) h x = image-cut a s x

pub substitute-step : (n : ℕ) (k : Kind) (h : IsKind n k) (w : List ℕ) → substitute k w ≡ flat_map (substitution (step_of n k h)).of w
substitute-step n k h [] = refl
substitute-step n k h (x ∷ w) = ap₂ (λ s t. s ++ t) (image-step n k h x) (substitute-step n k h w)

-- ---- the inverse of a kind is the step back
pub turned_is : (a set : ℕ) → bit_at set a ≡ 1 → bit_at set (inverse_letter a) ≡ 0 → (y : ℕ) → in_set (turned_set a set) y ≡ turned a (in_set set) y
turned_is a set h o y = elim (cases_eq y (inverse_letter a)) [
  | inl e ↦ subst (λ (z : ℕ). in_set (turned_set a set) z ≡ turned a (in_set set) z) (sym e)
      (holds (turned_set a set) (inverse_letter a) (turned_holds a set h o) ∙ sym (turned-cut a (in_set set)).has)
  | inr m ↦ elim (cases_eq y a) [
    | inl e ↦ subst (λ (z : ℕ). in_set (turned_set a set) z ≡ turned a (in_set set) z) (sym e)
        (omits (turned_set a set) a (turned_omits a set h o) ∙ sym (ap (turned a (in_set set)) (sym (inverse-inverse a)) ∙ (turned-cut a (in_set set)).lacks))
    | inr n ↦ ap (λ b. b == 1) (turned_other a set h o y n m) ∙ sym (turned-away a (in_set set) y (is-neither a y n m))
  ]
]

pub image-back : (n : ℕ) (k : Kind) (h : IsKind n k) (x : ℕ) → image (inverse_kind k) x ≡ (substitution (back (step_of n k h))).of x
image-back n (swap k) h x = refl
image-back n (invert k) h x = refl
image-back n (cut a s) h x =
    image-cut (inverse_letter a) (turned_set a s) x
    ∙ cut_letter-same (inverse_letter a) (in_set (turned_set a s)) (turned a (in_set s)) (turned_is a s h.holds h.omits) x

pub substitute-back : (n : ℕ) (k : Kind) (h : IsKind n k) (w : List ℕ) → substitute (inverse_kind k) w ≡ flat_map (substitution (back (step_of n k h))).of w
substitute-back n k h [] = refl
substitute-back n k h (x ∷ w) = ap₂ (λ s t. s ++ t) (image-back n k h x) (substitute-back n k h w)
