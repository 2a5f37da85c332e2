-- What the lines of a side show that are as they are asked to be.
use Rattle.std.proofs.Common.{◌≡◌, ℕ, ◌+◌, ◌*◌, ◌≤◌, List, [], ◌∷◌, ◌++◌, get_or, subst}
use Rattle.wh_words.specs.Tuples.{TupleData, IsTuple}
use Rattle.wh_words.specs.Action.{act_all}
use Rattle.wh_words.specs.Traces.{IsFlat}
use Rattle.wh_words.specs.Flows.{HasValue}
use Rattle.wh_flow.specs.Tables.{cell}
use Rattle.wh_reduce.proofs.Certificates.{flows_flat}
use Rattle.wh_data.specs.AnswerData.{SideData}
use Rattle.wh_data.specs.Numberings.{side_lines}
use Rattle.wh_cert.specs.Demands.{Demand, Placed, fit_on_the_way, has_flow, trace_ends, IsGeneratorFlow, IsMet, trace_asked, flow_asked, flows_asked, side_asked, sides_asked}
use Rattle.wh_cert.specs.Checks.{AreMet}
use Rattle.wh_cert.proofs.MetParts.{first_part, rest_part, first_met, rest_met, met_in}
use Rattle.wh_peak.specs.Equivalence.{AreMovesOfRank}
use Rattle.wh_peak.specs.Stabilisers.{LeadsToFlat}

trace_leads : (place : ℕ) (t : TupleData) (s : SideData) → AreMet (trace_asked place t s) → act_all t s.trace ≡ s.end
trace_leads place t s met = first_met (place + 1) (trace_ends t s.trace s.end) [] (rest_met place (fit_on_the_way t s.trace) ((place + 1, trace_ends t s.trace s.end) ∷ []) met)

end_flat : (place from : ℕ) (heads : List (ℕ × ℕ)) (s : SideData) → IsTuple s.end → s.end.rank ≤ 26 → AreMet (flows_asked place from heads s) → IsFlat s.end
end_flat place from heads s is low met =
    flows_flat s.end is low (λ g l.
    let f : List ℕ = get_or s.flows g [] in
    let head : ℕ × ℕ = get_or heads (from + g) (0, 0) in
    let shown : IsGeneratorFlow s.end g head f = first_met (place + g) (has_flow s.end g head f) [] (met_in (flow_asked place from heads s) s.end.rank g l met) in
    (cell f, shown.flow, subst (HasValue (cell f) (2 * g)) shown.degree shown.value))

pub side_shown : (place : ℕ) (heads : List (ℕ × ℕ)) (t : TupleData) (s : SideData) → AreMovesOfRank t.rank s.trace → IsTuple s.end → s.end.rank ≤ 26 → AreMet (side_asked place heads t s) → LeadsToFlat t s.trace s.end
side_shown place heads t s moves is low met =
    let trace : List Placed = trace_asked place t s in
    let flows : List Placed = flows_asked (place + 2) 0 heads s in
    record { of_rank = moves; leads = trace_leads place t s (first_part trace flows met); flat = end_flat (place + 2) 0 heads s is low (rest_part trace flows met) }

pub sides_shown : (place n : ℕ) (heads : List (ℕ × ℕ)) (s t : TupleData) (a b : SideData) (lengths : TupleData → TupleData → Demand) →
    AreMovesOfRank s.rank a.trace → AreMovesOfRank t.rank b.trace → IsTuple a.end → IsTuple b.end → a.end.rank ≤ 26 → b.end.rank ≤ 26 → AreMet (sides_asked place n heads s t a b lengths) →
    LeadsToFlat s a.trace a.end × LeadsToFlat t b.trace b.end × IsMet (lengths a.end b.end)
sides_shown place n heads s t a b lengths moves other_moves is other low other_low met =
    let at : ℕ = place + side_lines n in
    let ends : Demand = lengths a.end b.end in
    let side : List Placed = side_asked place heads s a in
    let trace : List Placed = trace_asked at t b in
    let flows : List Placed = flows_asked (at + 2) n heads b in
    let second : AreMet (trace ++ ((at + 1, ends) ∷ flows)) = rest_part side (trace ++ ((at + 1, ends) ∷ flows)) met in
    let last : AreMet ((at + 1, ends) ∷ flows) = rest_part trace ((at + 1, ends) ∷ flows) second in (
      side_shown place heads s a moves is low (first_part side (trace ++ ((at + 1, ends) ∷ flows)) met),
      record { of_rank = other_moves; leads = trace_leads at t b (first_part trace ((at + 1, ends) ∷ flows) second); flat = end_flat (at + 2) n heads b other other_low (rest_met (at + 1) ends flows last) },
      first_met (at + 1) ends flows last,
    )
