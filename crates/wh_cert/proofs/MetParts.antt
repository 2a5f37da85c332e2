-- Parts of what is asked, where all of it is met.
use Rattle.std.proofs.Common.{◌≡◌, ℕ, zero, suc, ◌+◌, ◌<◌, List, ◌∷◌, ◌++◌, length, inl, inr, subst, arith}
use Rattle.std.proofs.lemmas.Bool.{cases_lt}
use Rattle.std.proofs.lemmas.List.{length-append, get_or_append_left, get_or-append-add}
use Rattle.std.proofs.lemmas.List.Elements.{All-head, All-tail}
use Rattle.wh_cert.specs.Demands.{Demand, Placed, IsMet, asked_below}
use Rattle.wh_cert.specs.Checks.{AreMet}

pub first_part : (ds es : List Placed) → AreMet (ds ++ es) → AreMet ds
first_part ds es met k d l = subst (λ (e : Placed). IsMet e.1) (get_or_append_left ds es d k l) (met k d (omega (arith, length-append ds es, l)))

pub rest_part : (ds es : List Placed) → AreMet (ds ++ es) → AreMet es
rest_part ds es met k d l = subst (λ (e : Placed). IsMet e.1) (get_or-append-add ds es k d) (met (length ds + k) d (omega (arith, length-append ds es, l)))

pub first_met : (place : ℕ) (d : Demand) (ds : List Placed) → AreMet ((place, d) ∷ ds) → IsMet d
first_met place d ds met = All-head (λ (e : Placed). IsMet e.1) (place, d) ds met

pub rest_met : (place : ℕ) (d : Demand) (ds : List Placed) → AreMet ((place, d) ∷ ds) → AreMet ds
rest_met place d ds met = All-tail (λ (e : Placed). IsMet e.1) (place, d) ds met

-- What is asked in one turn.
pub met_in : (asked : ℕ → List Placed) (n k : ℕ) → k < n → AreMet (asked_below asked n) → AreMet (asked k)
unfolding asked_below
met_in asked zero k l met = absurd (omega (arith, l))
met_in asked (suc n) k l met = elim (cases_lt k n) [
  | inl below ↦ met_in asked n k below (first_part (asked_below asked n) (asked n) met)
  | inr above ↦
      let last : n ≡ k = omega (arith, above, l) in
      subst (λ (j : ℕ). AreMet (asked j)) last (rest_part (asked_below asked n) (asked n) met)
]
