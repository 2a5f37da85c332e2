-- The laws of words and cyclic words.
use Rattle.std.proofs.Common.{◌≡◌, ℕ, zero, suc, true, cond, List, [], ◌∷◌, ◌++◌, length, map, refl, sym, ap, ◌∙◌, subst, inl, inr, append_assoc}
use Rattle.std.proofs.lemmas.Bool.{cases_Bool, false≢true, eqb-true}
use Rattle.std.proofs.lemmas.List.{reverse-append}
use Rattle.wh_words.specs.Letters.{inverse_letter}
use Rattle.wh_words.specs.Words.{free_reduction, put_before, Remains}
use Rattle.wh_words.specs.CyclicWords.{cyclic_core, strip_times, inner, ends_cancel, cyclic_reduction, cyclic_word, least_rotation, IsLeastRotation, StripsTo, IsCyclicReduction}
use Rattle.wh_words.specs.CyclicWords.StripsTo.{none as stays, ends as stripped}
use Rattle.wh_words.specs.Images.{inverse_word}
use Rattle.wh_words.specs.Laws.{FreeReductionIsWhatRemains, CyclicReductionIsWhatRemains, CyclicWordIsLeastRotation, TurningKeepsCyclicWord, ConjugatesHaveOneCyclicWord}
use Rattle.wh_words.proofs.FreeReduction.{remains_unique, remains_there, free_reduction-reduced, free_reduction-pair}
use Rattle.wh_words.proofs.Turning.{Ends, ends, ends_cancel-two, inner-two, cyclic_core-two, cyclic_core-other}
use Rattle.wh_words.proofs.Turning.Ends.{none, one, two}
use Rattle.wh_words.proofs.Rotations.{least_rotation_unique, least_rotation-is, cyclic_word-turn}
use Rattle.wh_words.proofs.MadeOfReduced.{cyclic_core_good}

pub free_reduction_remains : FreeReductionIsWhatRemains
free_reduction_remains w v = (
  λ r. remains_unique r.deleted r.none_stands,
  λ e. subst (Remains w) (sym e) (record { deleted = remains_there w; none_stands = free_reduction-reduced w }),
)

-- ---- inverse ends
strips_core : {w v : List ℕ} → StripsTo w v → cyclic_core w ≡ cyclic_core v
strips_core stays = refl
strips_core (stripped x m s) = cyclic_core-two x m (inverse_letter x) refl ∙ strips_core s

strips_inner : (w : List ℕ) {v : List ℕ} → Ends w → ends_cancel w ≡ true → StripsTo (inner w) v → StripsTo w v
strips_inner w none h s = absurd (false≢true h)
strips_inner w (one x) h s = absurd (false≢true h)
strips_inner w {v} (two x m y) h s =
    let e : y ≡ inverse_letter x = eqb-true y (inverse_letter x) (sym (ends_cancel-two x m y) ∙ h) in
    subst (λ (z : ℕ). StripsTo (x ∷ (m ++ z ∷ [])) v) (sym e) (stripped x m (subst (λ (u : List ℕ). StripsTo u v) (inner-two x m y) s))

strips_times : (n : ℕ) (w : List ℕ) → StripsTo w (strip_times n w)
strips_times zero w = stays
strips_times (suc n) w = elim (cases_Bool (ends_cancel w)) [
  | inl h ↦ subst (StripsTo w) (sym (ap (λ b. cond b (strip_times n (inner w)) w) h)) (strips_inner w (ends w) h (strips_times n (inner w)))
  | inr h ↦ subst (StripsTo w) (sym (ap (λ b. cond b (strip_times n (inner w)) w) h)) stays
]

strips_there : (w : List ℕ) → StripsTo w (cyclic_core w)
unfolding cyclic_core
strips_there w = strips_times (length w) w

pub cyclic_reduction_remains : CyclicReductionIsWhatRemains
cyclic_reduction_remains w v = (
  λ r. sym (cyclic_core-other v r.none_cancel) ∙ sym (strips_core r.stripped) ∙ ap cyclic_core (remains_unique r.remains.deleted r.remains.none_stands),
  λ e. subst (IsCyclicReduction w) (sym e) (record {
    reduced = free_reduction w;
    remains = record { deleted = remains_there w; none_stands = free_reduction-reduced w };
    stripped = strips_there (free_reduction w);
    none_cancel = (cyclic_core_good (free_reduction w) (free_reduction-reduced w)).1;
  }),
)

-- ---- the first rotation, and the conjugacy class
pub least : CyclicWordIsLeastRotation
least w r = (
  λ h. least_rotation_unique (cyclic_reduction w) r (cyclic_word w) h (least_rotation-is (cyclic_reduction w)),
  λ e. subst (IsLeastRotation (cyclic_reduction w)) (sym e) (least_rotation-is (cyclic_reduction w)),
)

pub turned : TurningKeepsCyclicWord
turned = cyclic_word-turn

inverse_word-cons : (x : ℕ) (g : List ℕ) → inverse_word (x ∷ g) ≡ inverse_word g ++ inverse_letter x ∷ []
inverse_word-cons x g = reverse-append (inverse_letter x ∷ []) (map inverse_letter g)

pub cancels : (g w : List ℕ) → free_reduction (g ++ (inverse_word g ++ w)) ≡ free_reduction w
cancels [] w = refl
cancels (x ∷ g) w =
    ap (λ v. free_reduction (x ∷ (g ++ (v ++ w)))) (inverse_word-cons x g)
    ∙ ap (λ v. free_reduction (x ∷ (g ++ v))) (append_assoc (inverse_word g) (inverse_letter x ∷ []) w)
    ∙ ap (put_before x) (cancels g (inverse_letter x ∷ w))
    ∙ free_reduction-pair [] x w

pub conjugated : ConjugatesHaveOneCyclicWord
conjugated w g =
    cyclic_word-turn (inverse_word g ++ w) g
    ∙ ap (λ v. least_rotation (cyclic_core v)) (cancels g w)
