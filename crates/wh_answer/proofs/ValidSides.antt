-- The lines of the sides of an answer are as they are asked to be.
use Rattle.std.proofs.Common.{◌≡◌, ℕ, zero, suc, ◌+◌, ◌*◌, ◌<◌, ◌≤◌, List, [], ◌∷◌, ◌++◌, length, get_or, refl, sym, ap, ◌∙◌, subst, arith, append-nil}
use Rattle.std.proofs.lemmas.List.{get_or_append_left, get_or-append-add}
use Rattle.wh_words.specs.Tuples.{TupleData, IsTuple}
use Rattle.wh_reduce.specs.FlowLists.{AreFlows}
use Rattle.wh_data.specs.declared.answer.Side.{Side}
use Rattle.wh_fields.specs.FlowFields.{flow_value, heads_from}
use Rattle.wh_data.specs.AnswerData.{SideData, side_of}
use Rattle.wh_data.specs.Numberings.{side_lines}
use Rattle.wh_cert.specs.Demands.{Demand, Placed, fit_on_the_way, trace_ends, has_flow, IsGeneratorFlow, IsMet, asked_below, trace_asked, flow_asked, flows_asked, side_asked, sides_asked}
use Rattle.wh_cert.specs.Checks.{AreMet}
use Rattle.wh_cert.proofs.Judging.{one_met, both_met, none_asked, next_asked}
use Rattle.wh_answer.specs.Sides.{IsSideOf}
use Rattle.wh_answer.proofs.Inverses.{trace_leads}
use Rattle.wh_answer.proofs.Verdicts.{trace_rank}
use Rattle.wh_answer.proofs.ValidWays.{trace_fits}

-- ---- demands in turn
pub each_met : (asked : ℕ → List Placed) (n : ℕ) → ((k : ℕ) → k < n → AreMet (asked k)) → AreMet (asked_below asked n)
each_met asked zero h = none_asked asked
each_met asked (suc n) h = next_asked asked n (each_met asked n (λ k l. h k (omega (arith, l)))) (h n (omega arith))

-- ---- the letters and values of `flow` lines
heads_length : (g : ℕ) (fs : List (List ℕ)) → length (heads_from g fs) ≡ length fs
heads_length g [] = refl
heads_length g (f ∷ fs) = ap suc (heads_length (g + 1) fs)

-- The letter and the value of the flow of generator g.
head_of : List (List ℕ) → ℕ → ℕ × ℕ
head_of fs g = (2 * g, flow_value (get_or fs g []) (2 * g))

head_at : (from : ℕ) (fs : List (List ℕ)) (k : ℕ) → k < length fs → get_or (heads_from from fs) k (0, 0) ≡ (2 * (from + k), flow_value (get_or fs k []) (2 * (from + k)))
head_at from [] k l = absurd (omega (arith, l))
head_at from (f ∷ fs) zero l = let e : from ≡ from + 0 = omega arith in ap (λ (g : ℕ). (2 * g, flow_value f (2 * g))) e
head_at from (f ∷ fs) (suc k) l =
    let e : from + 1 + k ≡ from + suc k = omega arith in
    head_at (from + 1) fs k (omega (arith, l)) ∙ ap (λ (g : ℕ). (2 * g, flow_value (get_or fs k []) (2 * g))) e

first_head : (fs : List (List ℕ)) (more : List (ℕ × ℕ)) (g : ℕ) → g < length fs → get_or (heads_from 0 fs ++ more) (0 + g) (0, 0) ≡ head_of fs g
unfolding head_of
first_head fs more g l =
    let same : 0 + g ≡ g = omega arith in
    ap (λ k. get_or (heads_from 0 fs ++ more) k (0, 0)) same ∙ get_or_append_left (heads_from 0 fs) more (0, 0) g (omega (arith, heads_length 0 fs, l)) ∙ head_at 0 fs g l
    ∙ ap (λ k. (2 * k, flow_value (get_or fs g []) (2 * k))) same

second_head : (fs gs : List (List ℕ)) (n g : ℕ) → n ≡ length fs → g < length gs → get_or (heads_from 0 fs ++ heads_from 0 gs) (n + g) (0, 0) ≡ head_of gs g
unfolding head_of
second_head fs gs n g e l =
    let same : 0 + g ≡ g = omega arith in
    ap (λ k. get_or (heads_from 0 fs ++ heads_from 0 gs) (k + g) (0, 0)) (e ∙ sym (heads_length 0 fs)) ∙ get_or-append-add (heads_from 0 fs) (heads_from 0 gs) g (0, 0) ∙ head_at 0 gs g l
    ∙ ap (λ k. (2 * k, flow_value (get_or gs g []) (2 * k))) same

-- ---- the lines of a side
flow_met : (end : TupleData) (fs : List (List ℕ)) (g : ℕ) → AreFlows end fs → g < end.rank → IsGeneratorFlow end g (head_of fs g) (get_or fs g [])
unfolding head_of
flow_met end fs g are l =
    let is = are.each g l in
    record { letter = refl; degree = omega (arith, is.value); flow = is.first.flow; value = omega (arith, is.value) }

flows_met : (place from : ℕ) (heads : List (ℕ × ℕ)) (s : SideData) → AreFlows s.end s.flows → ((g : ℕ) → g < s.end.rank → get_or heads (from + g) (0, 0) ≡ head_of s.flows g) → AreMet (flows_asked place from heads s)
flows_met place from heads s are same =
    each_met (flow_asked place from heads s) s.end.rank (λ g l.
    one_met (place + g) (has_flow s.end g (get_or heads (from + g) (0, 0)) (get_or s.flows g []))
    (subst (λ (head : ℕ × ℕ). IsGeneratorFlow s.end g head (get_or s.flows g [])) (sym (same g l)) (flow_met s.end s.flows g are l)))

trace_met : (place : ℕ) (t : TupleData) (side : Side) → IsTuple t → t.rank ≤ 26 → IsSideOf t side → AreMet (trace_asked place t (side_of side))
trace_met place t side is low own =
    both_met ((place, fit_on_the_way t side.trace) ∷ []) ((place + 1, trace_ends t side.trace side.end.plain) ∷ [])
    (one_met place (fit_on_the_way t side.trace) (trace_fits t side.end.plain side.trace is low own.trace))
    (one_met (place + 1) (trace_ends t side.trace side.end.plain) (trace_leads t side.end.plain side.trace own.trace))

-- More `flow` lines may follow those of the side.
first_met : (place : ℕ) (t : TupleData) (side : Side) (more : List (ℕ × ℕ)) → IsTuple t → t.rank ≤ 26 → IsSideOf t side → AreMet (side_asked place (heads_from 0 side.flows ++ more) t (side_of side))
first_met place t side more is low own =
    both_met (trace_asked place t (side_of side)) (flows_asked (place + 2) 0 (heads_from 0 side.flows ++ more) (side_of side)) (trace_met place t side is low own)
    (flows_met (place + 2) 0 (heads_from 0 side.flows ++ more) (side_of side) own.flows (λ g l. first_head side.flows more g (omega (arith, l, own.flows.count))))

pub side_met : (place : ℕ) (t : TupleData) (side : Side) → IsTuple t → t.rank ≤ 26 → IsSideOf t side → AreMet (side_asked place (heads_from 0 side.flows) t (side_of side))
side_met place t side is low own =
    subst (λ (heads : List (ℕ × ℕ)). AreMet (side_asked place heads t (side_of side))) (append-nil (heads_from 0 side.flows)) (first_met place t side [] is low own)

-- The lines of two sides, where what is asked of the lengths of their ends is so.
pub sides_met : (place : ℕ) (s t : TupleData) (a b : Side) (lengths : TupleData → TupleData → Demand) → IsTuple s → IsTuple t → s.rank ≤ 26 → t.rank ≤ 26 → IsSideOf s a → IsSideOf t b → IsMet (lengths a.end.plain b.end.plain) →
    AreMet (sides_asked place s.rank (heads_from 0 a.flows ++ heads_from 0 b.flows) s t (side_of a) (side_of b) lengths)
sides_met place s t a b lengths is other low other_low left right met =
    let heads : List (ℕ × ℕ) = heads_from 0 a.flows ++ heads_from 0 b.flows in
    let at : ℕ = place + side_lines s.rank in
    let ends : Demand = lengths a.end.plain b.end.plain in
    let flows : List Placed = flows_asked (at + 2) s.rank heads (side_of b) in
    both_met (side_asked place heads s (side_of a)) (trace_asked at t (side_of b) ++ ((at + 1, ends) ∷ flows)) (first_met place s a (heads_from 0 b.flows) is low left)
    (both_met (trace_asked at t (side_of b)) ((at + 1, ends) ∷ flows) (trace_met at t b other other_low right)
    (both_met ((at + 1, ends) ∷ []) flows (one_met (at + 1) ends met)
    (flows_met (at + 2) s.rank heads (side_of b) right.flows
    (λ g l. second_head a.flows b.flows s.rank g (sym (left.flows.count ∙ trace_rank s a.end.plain a.trace left.trace)) (omega (arith, l, right.flows.count))))))
