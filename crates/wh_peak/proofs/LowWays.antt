-- On a straight way no tuple is longer than both ends, and between flat tuples all have one length.
use Rattle.std.proofs.Common.{◌≡◌, ℕ, zero, suc, ◌≤◌, ◌<◌, List, [], ◌∷◌, refl, inl, inr, arith, length, take}
use Rattle.std.proofs.lemmas.List.Elements.{All-take}
use Rattle.std.specs.Prelude.{◌⊎◌}
use Rattle.wh_words.specs.Tuples.{TupleData, IsTuple, tuple_length}
use Rattle.wh_words.specs.Moves.{Move}
use Rattle.wh_words.specs.Action.{act, act_all}
use Rattle.wh_peak.specs.Equivalence.{IsMoveOfRank, AreEquivalent}
use Rattle.wh_peak.specs.Straightness.{way_lengths, Rises, StaysAndRises, FallsStaysAndRises}
use Rattle.wh_peak.specs.Laws.{StraightWaysStayLow, StraightWaysBetweenFlatStay}
use Rattle.wh_peak.proofs.MovesOfRank.{act_all-rank}
use Rattle.wh_peak.proofs.ShortestTuples.{equivalence_symmetric, flat_is_shortest, flat_tuple}

-- ---- the first of the lengths, and the others
rises_on : (x : ℕ) (u : TupleData) (ms : List Move) → Rises (x ∷ way_lengths u ms) → (x < tuple_length u) × Rises (way_lengths u ms)
rises_on x u [] h = h
rises_on x u (m ∷ ms) h = h

stays_on : (x : ℕ) (u : TupleData) (ms : List Move) → StaysAndRises (x ∷ way_lengths u ms) → ((x ≡ tuple_length u) × StaysAndRises (way_lengths u ms)) ⊎ ((x < tuple_length u) × Rises (way_lengths u ms))
stays_on x u [] h = h
stays_on x u (m ∷ ms) h = h

falls_on : (x : ℕ) (u : TupleData) (ms : List Move) → FallsStaysAndRises (x ∷ way_lengths u ms) → ((tuple_length u < x) × FallsStaysAndRises (way_lengths u ms)) ⊎ StaysAndRises (x ∷ way_lengths u ms)
falls_on x u [] h = h
falls_on x u (m ∷ ms) h = h

-- ---- no tuple is longer than both ends
rises_low : (t : TupleData) (ms : List Move) → Rises (way_lengths t ms) → (k : ℕ) → k ≤ length ms → tuple_length (act_all t (take k ms)) ≤ tuple_length (act_all t ms)
rises_low t [] h zero l = omega arith
rises_low t [] h (suc k) l = absurd (omega (arith, l))
rises_low t (m ∷ ms) h zero l =
    let r : (tuple_length t < tuple_length (act t m)) × Rises (way_lengths (act t m) ms) = rises_on (tuple_length t) (act t m) ms h in
    omega (arith, r.0, rises_low (act t m) ms r.1 0 (omega arith))
rises_low t (m ∷ ms) h (suc k) l = rises_low (act t m) ms (rises_on (tuple_length t) (act t m) ms h).1 k (omega (arith, l))

stays_low : (t : TupleData) (ms : List Move) → StaysAndRises (way_lengths t ms) → (k : ℕ) → k ≤ length ms → tuple_length (act_all t (take k ms)) ≤ tuple_length (act_all t ms)
stays_low t [] h zero l = omega arith
stays_low t [] h (suc k) l = absurd (omega (arith, l))
stays_low t (m ∷ ms) h zero l = elim (stays_on (tuple_length t) (act t m) ms h) [
  | inl s ↦ omega (arith, s.0, stays_low (act t m) ms s.1 0 (omega arith))
  | inr r ↦ omega (arith, r.0, rises_low (act t m) ms r.1 0 (omega arith))
]
stays_low t (m ∷ ms) h (suc k) l = elim (stays_on (tuple_length t) (act t m) ms h) [
  | inl s ↦ stays_low (act t m) ms s.1 k (omega (arith, l))
  | inr r ↦ rises_low (act t m) ms r.1 k (omega (arith, l))
]

pub straight_ways_stay_low : StraightWaysStayLow
straight_ways_stay_low t [] h bound first last zero l = first
straight_ways_stay_low t [] h bound first last (suc k) l = absurd (omega (arith, l))
straight_ways_stay_low t (m ∷ ms) h bound first last zero l = first
straight_ways_stay_low t (m ∷ ms) h bound first last (suc k) l = elim (falls_on (tuple_length t) (act t m) ms h) [
  | inl f ↦ straight_ways_stay_low (act t m) ms f.1 bound (omega (arith, f.0, first)) last k (omega (arith, l))
  | inr s ↦ omega (arith, stays_low t (m ∷ ms) s (suc k) l, last)
]

-- ---- between flat tuples
pub between_flat : StraightWaysBetweenFlatStay
between_flat t ms is low h f g s k l =
    let to_end : AreEquivalent t (act_all t ms) = record { moves = ms; of_rank = h; leads = refl } in
    let end_is : IsTuple (act_all t ms) = flat_tuple t (act_all t ms) is to_end g in
    let here : AreEquivalent t (act_all t (take k ms)) = record { moves = take k ms; of_rank = All-take (IsMoveOfRank t.rank) k ms h; leads = refl } in
    let up : tuple_length t ≤ tuple_length (act_all t (take k ms)) = (flat_is_shortest t is low).0 f (act_all t (take k ms)) here in
    let back : tuple_length (act_all t ms) ≤ tuple_length t = (flat_is_shortest (act_all t ms) end_is (omega (arith, low, act_all-rank t ms))).0 g t (equivalence_symmetric t (act_all t ms) is to_end) in
    omega (arith, up, straight_ways_stay_low t ms s (tuple_length t) (omega arith) back k l)
