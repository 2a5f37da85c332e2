-- The steps and traces by lengths and by capacities are the same.
use Rattle.std.proofs.Common.{◌≡◌, ℕ, ◌*◌, ◌/◌, ◌<◌, ◌≤◌, Bool, true, not, ◌&&◌, ◌||◌, List, [], ◌∷◌, refl, sym, ap, ◌∙◌, subst, inl, inr, arith}
use Rattle.std.proofs.lemmas.Bool.{cases_eq, cases_lt, and_from, and_parts, or_left, and_left, or_from}
use Rattle.std.proofs.lemmas.Nat.Bits.{bit_at_above}
use Rattle.std.specs.Int.{bit_at}
use Rattle.wh_words.specs.Letters.{inverse_letter}
use Rattle.wh_words.specs.LetterSets.{in_set}
use Rattle.wh_words.specs.Tuples.{TupleData, IsTuple}
use Rattle.wh_words.specs.Moves.{Move, IsMove, IsCut, cut_move}
use Rattle.wh_words.specs.Action.{act}
use Rattle.wh_words.specs.Edges.{cap, deg}
use Rattle.wh_words.specs.Traces.{IsFlatAt, IsShortestCut, IsStep, IsTrace}
use Rattle.wh_words.specs.Traces.IsTrace.{done, step}
use Rattle.wh_words.specs.CapacityTraces.{IsSubset, IsFlatByCapacities, IsFlatByCapacitiesAt, IsLeastCapacityCut, IsCapacityStep, IsCapacityTrace}
use Rattle.wh_words.specs.CapacityTraces.IsCapacityTrace.{done as flat_end, step as cut_step}
use Rattle.wh_words.proofs.ImageLetters.{act_tuple}
use Rattle.wh_graph.specs.Laws.{FlatIsByCapacities, StepsAgree, TracesAgree}
use Rattle.wh_graph.proofs.EdgeCounts.{cap_same, complement_cap, submodular}
use Rattle.wh_graph.proofs.Degrees.{inverse_degree}
use Rattle.wh_graph.proofs.Lengths.{length_law}
use Rattle.wh_graph.proofs.ComplementCuts.{inverse_even, generator_of, complement, complement_cut}
use Rattle.wh_graph.proofs.SetNumbers.{mask, mask_lt, mask_has, mask_cut, holds, omits, holds_back, subset_le}

module _ (t : TupleData) (is : IsTuple t) where
  -- ---- one multiplier
  at_capacities : (a : ℕ) → IsFlatAt t a → IsFlatByCapacitiesAt t a
  at_capacities a flat set valid = omega (arith, flat set valid, length_law t a set is valid)

  at_lengths : (a : ℕ) → IsFlatByCapacitiesAt t a → IsFlatAt t a
  at_lengths a flat set valid = omega (arith, flat set valid, length_law t a set is valid)

  -- The number of a set has its capacity.
  pub mask_cap : (has : ℕ → Bool) → cap (in_set (mask (2 * t.rank) has)) t ≡ cap has t
  mask_cap has = cap_same t (in_set (mask (2 * t.rank) has)) has is (mask_has (2 * t.rank) has)

  -- The complements of the cuts of a letter are those of its inverse.
  flat_inverse : (a : ℕ) → IsFlatByCapacitiesAt t a → IsFlatByCapacitiesAt t (inverse_letter a)
  flat_inverse a flat set valid =
      let others : ℕ → Bool = λ x. not (in_set set x) in
      omega (arith, flat (complement t.rank set) (complement_cut t.rank a set valid), mask_cap others, complement_cap t (in_set set) others is (λ x l. refl), inverse_degree t a is)

  flat_everywhere : IsFlatByCapacities t → (a : ℕ) → IsFlatByCapacitiesAt t a
  flat_everywhere flat a = elim (generator_of a) [
    | inl e ↦ subst (IsFlatByCapacitiesAt t) (sym e) (flat (a / 2))
    | inr e ↦ subst (IsFlatByCapacitiesAt t) (sym e) (flat_inverse (2 * (a / 2)) (flat (a / 2)))
  ]

  -- ---- least cuts
  -- The intersection of two cuts of least capacity is one.
  meet : ℕ → ℕ → ℕ
  meet set other = mask (2 * t.rank) (λ x. in_set set x && in_set other x)

  meet_cut : (a set other : ℕ) → IsCut t.rank a set → IsCut t.rank a other → IsCut t.rank a (meet set other)
  unfolding meet
  meet_cut a set other v w =
      mask_cut t.rank a (λ x. in_set set x && in_set other x) v.of_rank
      (and_from (in_set set a) (in_set other a) (holds set a v.holds) (holds other a w.holds))
      (and_left (in_set set (inverse_letter a)) (in_set other (inverse_letter a)) (omits set (inverse_letter a) v.omits))

  meet_least : (a set other : ℕ) → IsCut t.rank a set → IsCut t.rank a other → ((s : ℕ) → IsCut t.rank a s → cap (in_set set) t ≤ cap (in_set s) t) →
      cap (in_set other) t ≡ cap (in_set set) t → cap (in_set (meet set other)) t ≤ cap (in_set set) t
  unfolding meet
  meet_least a set other v w least same =
      let either : ℕ → Bool = λ x. in_set set x || in_set other x in
      let joined : IsCut t.rank a (mask (2 * t.rank) either) =
      mask_cut t.rank a either v.of_rank (or_left (in_set set a) (in_set other a) (holds set a v.holds))
      (or_from (in_set set (inverse_letter a)) (in_set other (inverse_letter a)) (omits set (inverse_letter a) v.omits) (omits other (inverse_letter a) w.omits)) in
      omega (arith, submodular t (in_set set) (in_set other), mask_cap either, mask_cap (λ x. in_set set x && in_set other x), least (mask (2 * t.rank) either) joined, same)

  meet_parts : (set other x : ℕ) → bit_at (meet set other) x ≡ 1 → (bit_at set x ≡ 1) × (bit_at other x ≡ 1)
  unfolding meet
  meet_parts set other x e = elim (cases_lt x (2 * t.rank)) [
    | inl l ↦
        let both : (in_set set x ≡ true) × (in_set other x ≡ true) =
        and_parts (in_set set x) (in_set other x) (sym (mask_has (2 * t.rank) (λ y. in_set set y && in_set other y) x l) ∙ holds (meet set other) x e) in
        (holds_back set x both.0, holds_back other x both.1)
    | inr l ↦ absurd (omega (arith, e, bit_at_above (mask (2 * t.rank) (λ y. in_set set y && in_set other y)) (2 * t.rank) x (mask_lt (2 * t.rank) (λ y. in_set set y && in_set other y)) l))
  ]

  -- The first of the shortest cuts lies in all of them.
  first_inmost : (a set : ℕ) → IsShortestCut t a set → (other : ℕ) → IsCut t.rank a other → cap (in_set other) t ≡ cap (in_set set) t → IsSubset set other
  first_inmost a set s other w same x e =
      let least : (u : ℕ) → IsCut t.rank a u → cap (in_set set) t ≤ cap (in_set u) t =
      λ u v. omega (arith, s.shortest u v, length_law t a set is s.valid, length_law t a u is v) in
      let inner : IsCut t.rank a (meet set other) = meet_cut a set other s.valid w in
      let small : meet set other ≤ set = subset_le (2 * t.rank) (meet set other) set inner.within (λ y h. (meet_parts set other y h).0) in
      let equal : meet set other ≡ set = elim (cases_lt (meet set other) set) [
        | inl l ↦ absurd (omega (
          arith,
          s.first (meet set other) inner l,
          meet_least a set other s.valid w least same,
          length_law t a set is s.valid,
          length_law t a (meet set other) is inner,
        ))
        | inr l ↦ omega (arith, small, l)
      ] in
      (meet_parts set other x (subst (λ (u : ℕ). bit_at u x ≡ 1) (sym equal) e)).1

  shortest_least : (a set : ℕ) → IsShortestCut t a set → IsLeastCapacityCut t a set
  shortest_least a set s = record {
    valid = s.valid;
    least = λ u v. omega (arith, s.shortest u v, length_law t a set is s.valid, length_law t a u is v);
    inmost = first_inmost a set s;
  }

  least_shortest : (a set : ℕ) → IsLeastCapacityCut t a set → cap (in_set set) t < deg a t → IsShortestCut t a set
  least_shortest a set s below = record {
    valid = s.valid;
    shortens = omega (arith, below, length_law t a set is s.valid);
    shortest = λ u v. omega (arith, s.least u v, length_law t a set is s.valid, length_law t a u is v);
    first = λ u v l. elim (cases_eq (cap (in_set u) t) (cap (in_set set) t)) [
      | inl e ↦ absurd (omega (arith, l, subset_le (2 * t.rank) set u s.valid.within (s.inmost u v e)))
      | inr n ↦ omega (arith, n, s.least u v, length_law t a set is s.valid, length_law t a u is v)
    ];
  }

  -- ---- steps
  -- The first letter with a shortening cut is a generator.
  first_generator : (m : Move) (s : IsStep t m) → s.multiplier ≡ 2 * (s.multiplier / 2)
  first_generator m s = elim (generator_of s.multiplier) [
    | inl e ↦ e
    | inr e ↦
        let flat : IsFlatAt t (2 * (s.multiplier / 2)) = s.earlier (2 * (s.multiplier / 2)) (omega (arith, e, inverse_even (s.multiplier / 2))) in
        let none : IsFlatAt t s.multiplier =
        subst (IsFlatAt t) (sym e) (at_lengths (inverse_letter (2 * (s.multiplier / 2))) (flat_inverse (2 * (s.multiplier / 2)) (at_capacities (2 * (s.multiplier / 2)) flat))) in
        absurd (omega (arith, s.cut.shortens, none s.set s.cut.valid))
  ]

  to_capacities : (m : Move) → IsStep t m → IsCapacityStep t m
  to_capacities m s =
      let e : s.multiplier ≡ 2 * (s.multiplier / 2) = first_generator m s in
      let shortest : IsShortestCut t (2 * (s.multiplier / 2)) s.set = subst (λ (a : ℕ). IsShortestCut t a s.set) e s.cut in
      record {
        generator = s.multiplier / 2;
        set = s.set;
        is = s.is ∙ ap (λ a. cut_move t.rank a s.set) e;
        cut = shortest_least (2 * (s.multiplier / 2)) s.set shortest;
        below = omega (arith, shortest.shortens, length_law t (2 * (s.multiplier / 2)) s.set is shortest.valid);
        earlier = λ g l. at_capacities (2 * g) (s.earlier (2 * g) (omega arith));
      }

  to_lengths : (m : Move) → IsCapacityStep t m → IsStep t m
  to_lengths m s = record {
    multiplier = 2 * s.generator;
    set = s.set;
    is = s.is;
    cut = least_shortest (2 * s.generator) s.set s.cut s.below;
    earlier = λ a l. at_lengths a (elim (generator_of a) [
      | inl e ↦ subst (IsFlatByCapacitiesAt t) (sym e) (s.earlier (a / 2) (omega arith))
      | inr e ↦ subst (IsFlatByCapacitiesAt t) (sym e) (flat_inverse (2 * (a / 2)) (s.earlier (a / 2) (omega arith)))
    ]);
  }

pub flat_by_capacities : FlatIsByCapacities
flat_by_capacities t is = (λ flat g. at_capacities t is (2 * g) (flat (2 * g)), λ flat a. at_lengths t is a (flat_everywhere t is flat a))

pub steps_agree : StepsAgree
steps_agree t m is = (to_capacities t is m, to_lengths t is m)

-- ---- traces
-- A step leads from a tuple to a tuple.
pub step_tuple : (t : TupleData) (m : Move) → IsTuple t → t.rank ≤ 26 → IsStep t m → IsTuple (act t m)
step_tuple t m is rank s =
    let move : Move = cut_move t.rank s.multiplier s.set in
    let valid : IsMove move = record { rank = rank; kind = s.cut.valid } in
    subst (λ (k : Move). IsTuple (act t k)) (sym s.is) (act_tuple t move is valid refl (omega (arith, s.cut.shortens, is.short)))

trace_to_capacities : (t end : TupleData) (ms : List Move) → IsTuple t → t.rank ≤ 26 → IsTrace t ms end → IsCapacityTrace t ms end
trace_to_capacities t end [] is rank (done flat) = flat_end ((flat_by_capacities t is).0 flat)
trace_to_capacities t end (m ∷ ms) is rank (step s r) = cut_step (to_capacities t is m s) (trace_to_capacities (act t m) end ms (step_tuple t m is rank s) rank r)

trace_to_lengths : (t end : TupleData) (ms : List Move) → IsTuple t → t.rank ≤ 26 → IsCapacityTrace t ms end → IsTrace t ms end
trace_to_lengths t end [] is rank (flat_end flat) = done ((flat_by_capacities t is).1 flat)
trace_to_lengths t end (m ∷ ms) is rank (cut_step s r) =
    let measured : IsStep t m = to_lengths t is m s in
    step measured (trace_to_lengths (act t m) end ms (step_tuple t m is rank measured) rank r)

pub traces_agree : TracesAgree
traces_agree t end ms is rank = (trace_to_capacities t end ms is rank, trace_to_lengths t end ms is rank)
