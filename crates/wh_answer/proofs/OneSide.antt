-- A tuple has one side: one trace, and one list of rows of the flows of its end.
use Rattle.std.proofs.Common.{◌≡◌, ℕ, zero, suc, ◌+◌, ◌-◌, ◌*◌, ◌<◌, ◌≤◌, ◌==◌, ◌||◌, cond, List, [], ◌∷◌, ◌++◌, length, get_or, refl, ap, ◌∙◌, subst, arith}
use Rattle.std.specs.Prelude.{codes, decimal}
use Rattle.wh_words.specs.Tuples.{TupleData, IsTuple}
use Rattle.wh_words.specs.Moves.{Move}
use Rattle.wh_words.specs.CapacityTraces.{IsCapacityTrace}
use Rattle.wh_words.specs.Flows.{outflow, inflow}
use Rattle.wh_words.proofs.MoveLaws.{trace_unique}
use Rattle.wh_flow.specs.Tables.{cell}
use Rattle.wh_flow.proofs.Sums.{sum-same}
use Rattle.wh_graph.proofs.Agreement.{traces_agree}
use Rattle.wh_reduce.specs.FlowLists.{AreFlows}
use Rattle.wh_reduce.proofs.Certificates.{flows_unique}
use Rattle.wh_data.specs.declared.answer.Side.{Side}
use Rattle.wh_fields.specs.Words.{letter_text}
use Rattle.wh_fields.specs.Repeated.{below}
use Rattle.wh_fields.specs.FlowFields.{pair_item, pair_fields, flow_value, flow_row, flow_rows}
use Rattle.wh_fields.specs.TupleFields.{words_row}
use Rattle.wh_fields.specs.MoveFields.{moves_row}
use Rattle.wh_data.specs.AnswerData.{side_of}
use Rattle.wh_data.specs.AnswerTexts.{side_rows}
use Rattle.wh_answer.specs.Sides.{IsSideOf}
use Rattle.wh_answer.proofs.Verdicts.{trace_rank}

-- ---- the rows of flows
below_same : {A : Type 0} (f g : ℕ → List A) (k : ℕ) → ((i : ℕ) → i < k → f i ≡ g i) → below f k ≡ below g k
unfolding below
below_same f g zero e = refl
below_same f g (suc k) e = ap (λ v. v ++ f k) (below_same f g k (λ i l. e i (omega (arith, l)))) ∙ ap (λ v. below g k ++ v) (e k (omega arith))

pair_same : (f g : List ℕ) (x y : ℕ) → cell f x y ≡ cell g x y → pair_item f x y ≡ pair_item g x y
pair_same f g x y e = ap (λ c. cond ((x == y) || (c == 0)) [] ((letter_text x ∷ letter_text y ∷ codes ":" ++ decimal c) ∷ [])) e

-- Two tables agree on all letters.
Agree : List ℕ → List ℕ → Type 0
Agree f g = (x y : ℕ) → x < 52 → y < 52 → cell f x y ≡ cell g x y

pairs_same : (n : ℕ) (f g : List ℕ) → n ≤ 26 → Agree f g → pair_fields n f ≡ pair_fields n g
unfolding Agree
pairs_same n f g h e =
    below_same (λ x. below (pair_item f x) (2 * n)) (λ x. below (pair_item g x) (2 * n)) (2 * n)
    (λ x l. below_same (pair_item f x) (pair_item g x) (2 * n) (λ y m. pair_same f g x y (e x y (omega (arith, l, h)) (omega (arith, m, h)))))

value_same : (f g : List ℕ) (a : ℕ) → a < 52 → Agree f g → flow_value f a ≡ flow_value g a
unfolding Agree
value_same f g a l e =
    let out : outflow (cell f) a ≡ outflow (cell g) a = sum-same 52 (λ y. cell f a y) (λ y. cell g a y) (λ y m. e a y l m) in
    let into : inflow (cell f) a ≡ inflow (cell g) a = sum-same 52 (λ y. cell f y a) (λ y. cell g y a) (λ y m. e y a m l) in
    ap (λ v. v - inflow (cell f) a) out ∙ ap (λ v. outflow (cell g) a - v) into

flow_same : (n a : ℕ) (f g : List ℕ) → n ≤ 26 → a < 52 → Agree f g → flow_row n a f ≡ flow_row n a g
flow_same n a f g h l e =
    ap (λ v. record { keyword = codes "flow"; fields = (letter_text a ∷ []) ∷ decimal v ∷ pair_fields n f }) (value_same f g a l e)
    ∙ ap (λ ps. record { keyword = codes "flow"; fields = (letter_text a ∷ []) ∷ decimal (flow_value g a) ∷ ps }) (pairs_same n f g h e)

flows_same : (n k : ℕ) (fs gs : List (List ℕ)) → n ≤ 26 → length fs ≡ length gs → k + length fs ≤ n → ((j : ℕ) → j < length fs → Agree (get_or fs j []) (get_or gs j [])) → flow_rows n k fs ≡ flow_rows n k gs
flows_same n k [] [] h e l same = refl
flows_same n k [] (g ∷ gs) h e l same = absurd (omega (arith, e))
flows_same n k (f ∷ fs) [] h e l same = absurd (omega (arith, e))
flows_same n k (f ∷ fs) (g ∷ gs) h e l same =
    ap (λ r. r ∷ flow_rows n (k + 1) fs) (flow_same n (2 * k) f g h (omega (arith, h, l)) (same 0 (omega arith)))
    ∙ ap (λ rs. flow_row n (2 * k) g ∷ rs) (flows_same n (k + 1) fs gs h (omega (arith, e)) (omega (arith, l)) (λ j m. same (suc j) (omega (arith, m))))

-- A tuple has the same rows of flows, whoever found them.
tuple_flows_same : (t : TupleData) (fs gs : List (List ℕ)) → t.rank ≤ 26 → AreFlows t fs → AreFlows t gs → flow_rows t.rank 0 fs ≡ flow_rows t.rank 0 gs
unfolding Agree
tuple_flows_same t fs gs h are others =
    flows_same t.rank 0 fs gs h (omega (arith, are.count, others.count)) (omega (arith, are.count)) (λ g l x y m k. flows_unique t fs gs are others g x y (omega (arith, l, are.count)) m k)

-- ---- the side
pub trace_one : (t u v : TupleData) (ms ns : List Move) → IsTuple t → t.rank ≤ 26 → IsCapacityTrace t ms u → IsCapacityTrace t ns v → (ms ≡ ns) × (u ≡ v)
trace_one t u v ms ns is rank r s = trace_unique t u v ms ns ((traces_agree t u ms is rank).1 r) ((traces_agree t v ns is rank).1 s)

pub side_one : (t : TupleData) (a b : Side) → IsTuple t → t.rank ≤ 26 → IsSideOf t a → IsSideOf t b → side_rows (side_of a) ≡ side_rows (side_of b)
side_one t a b is rank i j =
    let same : (a.trace ≡ b.trace) × (a.end.plain ≡ b.end.plain) = trace_one t a.end.plain b.end.plain a.trace b.trace is rank i.trace j.trace in
    let within : b.end.plain.rank ≤ 26 = omega (arith, trace_rank t b.end.plain b.trace j.trace, rank) in
    let rows : flow_rows a.end.plain.rank 0 a.flows ≡ flow_rows b.end.plain.rank 0 b.flows =
    ap (λ (d : TupleData). flow_rows d.rank 0 a.flows) same.1 ∙ tuple_flows_same b.end.plain a.flows b.flows within (subst (λ (d : TupleData). AreFlows d a.flows) same.1 i.flows) j.flows in
    ap (λ ms. moves_row (codes "trace") ms ∷ words_row (codes "end") a.end.plain.words ∷ flow_rows a.end.plain.rank 0 a.flows) same.0
    ∙ ap (λ (d : TupleData). moves_row (codes "trace") b.trace ∷ words_row (codes "end") d.words ∷ flow_rows a.end.plain.rank 0 a.flows) same.1
    ∙ ap (λ rs. moves_row (codes "trace") b.trace ∷ words_row (codes "end") b.end.plain.words ∷ rs) rows
