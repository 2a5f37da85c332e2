-- Where moves carry a tuple, and whether the tuples on the way fit.
use Rattle.std.proofs.Common.{◌≡◌, ◌≢◌, ℕ, Bool, true, false, List, [], ◌∷◌, Option, None, Some, Result, refl, sym, ap, ◌∙◌, subst, ◌↔◌, IsTrue}
use Rattle.std.specs.Bool.{MatchBool}
use Rattle.std.specs.Option.{is_some}
use Rattle.std.proofs.lemmas.Bool.{true≢false, false≢true}
use Rattle.wh_words.specs.Tuples.{TupleData, Tuple}
use Rattle.wh_words.specs.Moves.{Move}
use Rattle.wh_words.specs.Action.{act_all}
use Rattle.wh_moves.specs.Acts.{FitsOnTheWay, IsFirstTooLong}
use Rattle.wh_cert.specs.declared.checked.Rule.TheVariants as rules
use Rattle.wh_cert.specs.declared.stop.Stop.{Stop}
use Rattle.wh_cert.specs.declared.stop.Stop.TheVariants.{Broken}
use Rattle.wh_cert.specs.Demands.{fit_on_the_way, Placed}
use Rattle.wh_cert.specs.Checks.{IsFirstBroken}
use Rattle.wh_cert.specs.Judged.{Judges, CarriesTo}
use Rattle.wh_cert.proofs.Judging.{one_met, one_broken, stops_before, judged_after}

pub not_on_the_way : (t : TupleData) (ms : List Move) (place n : ℕ) → IsFirstTooLong t ms place n → ¬ (FitsOnTheWay t ms)
not_on_the_way t ms place n h fits = h.too_long (fits place h.within)

-- Two tuples as the program compares them.
pub same_tested : (b : Bool) (u a e : TupleData) → MatchBool b (u ≡ e) (u ≢ e) → u ≡ a → IsTrue b ↔ (a ≡ e)
same_tested true u a e h q = (λ t. sym q ∙ h, λ p. refl)
same_tested false u a e h q = (λ f. absurd (false≢true f), λ p. absurd (h (q ∙ p)))

-- A list of moves on which a tuple is too long.
pub way_broken : (place : ℕ) (t : TupleData) (ms : List Move) (o : Option Tuple) (more : List Placed) → CarriesTo t ms o → o ≡ None → IsFirstBroken ((place, fit_on_the_way t ms) ∷ more) place rules.Long
way_broken place t ms None more h e = stops_before ((place, fit_on_the_way t ms) ∷ []) more (Broken place rules.Long) (one_broken place rules.Long (fit_on_the_way t ms) refl h)
way_broken place t ms (Some u) more h e = absurd (true≢false (ap is_some e))

-- One on which all tuples fit, and then what else is asked.
pub way_kept : (place : ℕ) (t : TupleData) (ms : List Move) (o : Option Tuple) (end : Tuple) (more : List Placed) (r : Result (Unit {0}) Stop) → CarriesTo t ms o → o ≡ Some end → Judges more r → Judges ((place, fit_on_the_way t ms) ∷ more) r
way_kept place t ms o end more r h e judged =
    let is : CarriesTo t ms (Some end) = subst (CarriesTo t ms) e h in
    judged_after ((place, fit_on_the_way t ms) ∷ []) more r (one_met place (fit_on_the_way t ms) is.0) judged

pub way_end : (t : TupleData) (ms : List Move) (o : Option Tuple) (end : Tuple) → CarriesTo t ms o → o ≡ Some end → end.plain ≡ act_all t ms
way_end t ms o end h e = let is : CarriesTo t ms (Some end) = subst (CarriesTo t ms) e h in is.1
