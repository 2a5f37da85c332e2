-- Judging one list of demands after another.
use Rattle.std.proofs.Common.{◌≡◌, ℕ, zero, suc, ◌+◌, List, [], ◌∷◌, ◌++◌, Result, Ok, Err, ◌<◌, inl, inr, refl, sym, ap, ◌∙◌, subst, arith}
use Rattle.std.proofs.lemmas.Bool.{cases_lt}
use Rattle.std.proofs.lemmas.List.{append_assoc}
use Rattle.std.proofs.lemmas.List.Elements.{All-nil, All-push, All-append}
use Rattle.wh_cert.specs.declared.checked.Rule.{Rule}
use Rattle.wh_cert.specs.declared.stop.Stop.{Stop}
use Rattle.wh_cert.specs.declared.stop.Stop.TheVariants.{Broken, OutOfMemory}
use Rattle.wh_cert.specs.Demands.{Demand, rule_of, IsMet, Placed, asked_below}
use Rattle.wh_cert.specs.Checks.{AreMet, IsFirstBroken}
use Rattle.wh_cert.specs.Judged.{StopsAt, Judges}

pub one_met : (place : ℕ) (d : Demand) → IsMet d → AreMet ((place, d) ∷ [])
one_met place d m = All-push (λ (e : Placed). IsMet e.1) [] (place, d) (All-nil (λ (e : Placed). IsMet e.1)) m

pub one_broken : (place : ℕ) (rule : Rule) (d : Demand) → rule ≡ rule_of d → ¬ (IsMet d) → IsFirstBroken ((place, d) ∷ []) place rule
one_broken place rule d e n = record { before = []; broken = d; after = []; parts = refl; met = All-nil (λ (e : Placed). IsMet e.1); unmet = n; asks = e }

-- What stops at some demands stops there where others follow.
pub stops_before : (ds es : List Placed) (stop : Stop) → StopsAt ds stop → StopsAt (ds ++ es) stop
stops_before ds es (Broken place rule) h =
    record {
      before = h.before;
      broken = h.broken;
      after = h.after ++ es;
      parts = ap (λ l. l ++ es) h.parts ∙ append_assoc h.before ((place, h.broken) ∷ h.after) es;
      met = h.met;
      unmet = h.unmet;
      asks = h.asks;
    }
stops_before ds es OutOfMemory h = tt

-- What stops at some demands stops there where others that are met come before.
pub stops_after : (ds es : List Placed) (stop : Stop) → AreMet ds → StopsAt es stop → StopsAt (ds ++ es) stop
stops_after ds es (Broken place rule) m h =
    record {
      before = ds ++ h.before;
      broken = h.broken;
      after = h.after;
      parts = ap (λ l. ds ++ l) h.parts ∙ sym (append_assoc ds h.before ((place, h.broken) ∷ h.after));
      met = All-append (λ (e : Placed). IsMet e.1) ds h.before m h.met;
      unmet = h.unmet;
      asks = h.asks;
    }
stops_after ds es OutOfMemory m h = tt

pub both_met : (ds es : List Placed) → AreMet ds → AreMet es → AreMet (ds ++ es)
both_met ds es m n = All-append (λ (e : Placed). IsMet e.1) ds es m n

-- Judging goes on with other demands where some are met.
pub judged_after : (ds es : List Placed) (r : Result (Unit {0}) Stop) → AreMet ds → Judges es r → Judges (ds ++ es) r
judged_after ds es (Ok u) m h = both_met ds es m h
judged_after ds es (Err stop) m h = stops_after ds es stop m h

-- ---- loops
pub none_asked : (asked : ℕ → List Placed) → AreMet (asked_below asked 0)
unfolding asked_below
none_asked asked = All-nil (λ (e : Placed). IsMet e.1)

pub next_asked : (asked : ℕ → List Placed) (k : ℕ) → AreMet (asked_below asked k) → AreMet (asked k) → AreMet (asked_below asked (suc k))
unfolding asked_below
next_asked asked k m n = both_met (asked_below asked k) (asked k) m n

-- What stops at one of the demands that are asked in turn stops so at all that are asked.
pub stops_in_turn : (asked : ℕ → List Placed) (k n : ℕ) (stop : Stop) → k < n → AreMet (asked_below asked k) → StopsAt (asked k) stop → StopsAt (asked_below asked n) stop
unfolding asked_below
stops_in_turn asked k zero stop l m h = absurd (omega (arith, l))
stops_in_turn asked k (suc n) stop l m h = elim (cases_lt k n) [
  | inl below ↦ stops_before (asked_below asked n) (asked n) stop (stops_in_turn asked k n stop below m h)
  | inr above ↦
      let here : k ≡ n = omega (arith, above, l) in
      stops_after (asked_below asked n) (asked n) stop (subst (λ (j : ℕ). AreMet (asked_below asked j)) here m) (subst (λ (j : ℕ). StopsAt (asked j) stop) here h)
]

-- A turn of a loop, whose result is r, and then q where it stops.
pub judged_in_turn : (asked : ℕ → List Placed) (k n : ℕ) (r q : Result (Unit {0}) Stop) (stop : Stop) → k < n → AreMet (asked_below asked k) → Judges (asked k) r → r ≡ Err stop → q ≡ Err stop → Judges (asked_below asked n) q
judged_in_turn asked k n r q stop l m judged e f =
    subst (Judges (asked_below asked n)) (sym f) (stops_in_turn asked k n stop l m (subst (Judges (asked k)) e judged))

pub met_in_turn : (asked : ℕ → List Placed) (k : ℕ) (r : Result (Unit {0}) Stop) (u : Unit {0}) → AreMet (asked_below asked k) → Judges (asked k) r → r ≡ Ok u → AreMet (asked_below asked (k + 1))
met_in_turn asked k r u m judged e =
    let next : k + 1 ≡ suc k = omega arith in
    subst (λ (j : ℕ). AreMet (asked_below asked j)) (sym next) (next_asked asked k m (subst (Judges (asked k)) e judged))

-- ---- one call after another
pub met_ok : (ds : List Placed) (r : Result (Unit {0}) Stop) (u : Unit {0}) → Judges ds r → r ≡ Ok u → AreMet ds
met_ok ds r u judged e = subst (Judges ds) e judged

-- The result r of the first call is an error, with which q ends.
pub stopped_first : (ds es : List Placed) (r q : Result (Unit {0}) Stop) (stop : Stop) → Judges ds r → r ≡ Err stop → q ≡ Err stop → Judges (ds ++ es) q
stopped_first ds es r q stop judged e f = subst (Judges (ds ++ es)) (sym f) (stops_before ds es stop (subst (Judges ds) e judged))
