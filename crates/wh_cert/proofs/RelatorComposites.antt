-- Whether the composite of a relator is the identity.
use Rattle.std.proofs.Common.{◌≡◌, ◌↔◌, ℕ, ◌*◌, ◌<◌, Bool, IsTrue, List, [], ◌∷◌, get_or, Some, None, Result, refl, sym, ap, ◌∙◌, subst, arith}
use Rattle.std.proofs.lemmas.List.{ext_get_or}
use Rattle.wh_words.specs.Moves.{Move}
use Rattle.wh_words.specs.Images.{AreIdentity}
use Rattle.wh_words.specs.Composites.{composite}
use Rattle.wh_composites.specs.Composing.{IsFirstTooLong}
use Rattle.wh_peak.specs.Relations.{IsTrivial}
use Rattle.wh_peak.proofs.SameComposites.{composite-length, composite-at}
use Rattle.wh_data.specs.declared.answer.Loop.{Loop}
use Rattle.wh_cert.specs.declared.checked.Rule.TheVariants as rules
use Rattle.wh_cert.specs.declared.stop.Stop.{Stop}
use Rattle.wh_cert.specs.declared.stop.Stop.TheVariants.{Broken}
use Rattle.wh_cert.specs.Demands.{has_short_images, is_identity}
use Rattle.wh_cert.specs.Judged.{Judges, StopsAt}
use Rattle.wh_cert.specs.VertexWays.{HaveShortImages, TellsIdentity}
use Rattle.wh_cert.proofs.Judging.{one_met, one_broken, stops_before, judged_after}

-- Images that are too long on the way aren't short.
pub too_long : (n : ℕ) (ms : List Move) (place count : ℕ) → IsFirstTooLong n ms place count → ¬ (HaveShortImages n ms)
too_long n ms place count first short = omega (arith, short place first.within, first.letters, first.too_long)

-- Words are the images of the identity where they are those of no moves.
identity_images : (n : ℕ) (ms : List Move) → AreIdentity (composite n ms) ↔ IsTrivial n ms
identity_images n ms = (there, back)
  where
    own : (g : ℕ) → g < n → get_or (composite n []) g [] ≡ 2 * g ∷ []
    own g l = composite-at n g [] l ∙ refl

    there : AreIdentity (composite n ms) → IsTrivial n ms
    there are =
        ext_get_or [] (composite n ms) (composite n []) (composite-length n ms ∙ sym (composite-length n [])) (λ g l.
        let within : g < n = omega (arith, l, composite-length n ms) in
        are g l ∙ sym (own g within))

    back : IsTrivial n ms → AreIdentity (composite n ms)
    back same g l = ap (λ (ws : List (List ℕ)). get_or ws g []) same ∙ own g (omega (arith, l, composite-length n ms))

pub told_identity : (n : ℕ) (ms : List Move) (images : List (List ℕ)) {b : Bool} → images ≡ composite n ms → HaveShortImages n ms → IsTrue b ↔ AreIdentity images → TellsIdentity n ms (Some b)
told_identity n ms images {b} is short told =
    let exact : AreIdentity images ↔ IsTrivial n ms = subst (λ (ws : List (List ℕ)). AreIdentity ws ↔ IsTrivial n ms) (sym is) (identity_images n ms) in
    (short, (λ t. exact.0 (told.0 t), λ h. told.1 (exact.1 h)))

module _ (place n : ℕ) (r : Loop) where
  pub wide_stop : TellsIdentity n r.moves None → StopsAt ((place, has_short_images n r) ∷ (place, is_identity n r) ∷ []) (Broken place rules.Wide)
  wide_stop long = stops_before ((place, has_short_images n r) ∷ []) ((place, is_identity n r) ∷ []) (Broken place rules.Wide) (one_broken place rules.Wide (has_short_images n r) refl long)

  pub then_identity : (b : Bool) (q : Result (Unit {0}) Stop) → TellsIdentity n r.moves (Some b) → (IsTrue b ↔ IsTrivial n r.moves → Judges ((place, is_identity n r) ∷ []) q) → Judges ((place, has_short_images n r) ∷ (place, is_identity n r) ∷ []) q
  then_identity b q tells judged = judged_after ((place, has_short_images n r) ∷ []) ((place, is_identity n r) ∷ []) q (one_met place (has_short_images n r) tells.0) (judged tells.1)
