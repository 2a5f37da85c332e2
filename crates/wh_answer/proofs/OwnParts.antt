-- The moves, tuples and flows that stand in an answer are of the rank of its problem.
use Rattle.std.proofs.Common.{◌≡◌, ◌≢◌, ℕ, ◌*◌, ◌<◌, ◌≤◌, ◌==◌, ◌&&◌, true, List, [], ◌∷◌, length, get_or, sym, ap, ◌∙◌, subst, inl, inr, arith, count_by, eqb-true}
use Rattle.std.proofs.lemmas.Bool.{cases_Bool, or_cases}
use Rattle.std.proofs.lemmas.List.{length-map}
use Rattle.std.proofs.lemmas.List.Elements.{All-nil, All-cons, All-head, All-tail, All-push}
use Rattle.std.proofs.lemmas.List.Sums.{count_by-le-length}
use Rattle.std.specs.List.{All}
use Rattle.wh_words.proofs.MoveLists.{inverse_list-cons}
use Rattle.wh_words.specs.CyclicWords.{cyclic_word}
use Rattle.wh_words.specs.Tuples.{TupleData, IsTuple, tuple_length}
use Rattle.wh_words.specs.Moves.{Move, inverse_move}
use Rattle.wh_words.specs.MoveLists.{inverse_list}
use Rattle.wh_words.specs.Action.{act, substitute}
use Rattle.wh_words.specs.Edges.{edges, joins}
use Rattle.wh_words.specs.TupleFlows.{edge_table}
use Rattle.wh_words.specs.CapacityTraces.{IsCapacityStep, IsCapacityTrace}
use Rattle.wh_words.specs.CapacityTraces.IsCapacityTrace.{done, step}
use Rattle.wh_words.specs.Levels.{Reaches}
use Rattle.wh_words.specs.Levels.Reaches.{here, step as further}
use Rattle.wh_words.proofs.ImageLetters.{act_tuple}
use Rattle.wh_moves.proofs.InverseMoves.{inverse_is_move}
use Rattle.wh_flow.specs.Tables.{cell}
use Rattle.wh_graph.specs.Laws.{JoinsTwo}
use Rattle.wh_graph.proofs.EdgeCounts.{one, count-cons, edges_join, edges_length}
use Rattle.wh_reduce.specs.FlowLists.{AreFlows}
use Rattle.wh_reduce.proofs.Traced.{step_shortens}
use Rattle.wh_moves.proofs.Walks.{reached_rank, reached_words, reached_tuple}
use Rattle.wh_lines.proofs.Equations.{both_true}
use Rattle.wh_fields.specs.MoveFields.{IsMoveOf}
use Rattle.wh_fields.specs.TupleFields.{IsTupleOf}
use Rattle.wh_fields.specs.FlowFields.{IsFlowOf}
use Rattle.wh_answer.proofs.Inverses.{step_move, step_rank}
use Rattle.wh_answer.proofs.Sides.{flows_have_lines}

-- ---- moves
pub trace_moves : (n : ℕ) (t u : TupleData) (ms : List Move) → t.rank ≡ n → n ≤ 26 → IsCapacityTrace t ms u → All (IsMoveOf n) ms
trace_moves n t u [] e low (done flat) = All-nil (IsMoveOf n)
trace_moves n t u (m ∷ ms) e low (step s r) = All-cons (IsMoveOf n) m ms (step_move t m (omega (arith, e, low)) s, sym (step_rank t m s) ∙ e) (trace_moves n (act t m) u ms e low r)

pub walk_moves : (n : ℕ) (t u : TupleData) (ms : List Move) → t.rank ≡ n → Reaches t ms u → All (IsMoveOf n) ms
walk_moves n t u [] e here = All-nil (IsMoveOf n)
walk_moves n t u (m ∷ ms) e (further l r) = All-cons (IsMoveOf n) m ms (l.valid, l.rank ∙ e) (walk_moves n (act t m) u ms e r)

pub inverse_moves : (n : ℕ) (ms : List Move) → All (IsMoveOf n) ms → All (IsMoveOf n) (inverse_list ms)
inverse_moves n [] are = All-nil (IsMoveOf n)
inverse_moves n (m ∷ ms) are =
    let first : IsMoveOf n m = All-head (IsMoveOf n) m ms are in
    subst (All (IsMoveOf n)) (sym (inverse_list-cons m ms))
    (All-push (IsMoveOf n) (inverse_list ms) (inverse_move m) (inverse_moves n ms (All-tail (IsMoveOf n) m ms are)) (inverse_is_move m first.0, first.1))

-- ---- tuples
step_end : (n count : ℕ) (t : TupleData) (m : Move) → IsTupleOf n count t → n ≤ 26 → IsCapacityStep t m → IsTupleOf n count (act t m)
step_end n count t m is low s = record {
  tuple = act_tuple t m is.tuple (step_move t m (omega (arith, is.rank, low)) s) (step_rank t m s) (omega (arith, step_shortens t m is.tuple s, is.tuple.short));
  rank = is.rank;
  size = length-map t.words (λ w. cyclic_word (substitute m.kind w)) ∙ is.size;
}

pub trace_end : (n count : ℕ) (t u : TupleData) (ms : List Move) → IsTupleOf n count t → n ≤ 26 → IsCapacityTrace t ms u → IsTupleOf n count u
trace_end n count t u [] is low (done flat) = is
trace_end n count t u (m ∷ ms) is low (step s r) = trace_end n count (act t m) u ms (step_end n count t m is low s) low r

-- The length of a tuple falls with each move of its trace.
pub trace_length : (n count : ℕ) (t u : TupleData) (ms : List Move) → IsTupleOf n count t → n ≤ 26 → IsCapacityTrace t ms u → length ms ≤ tuple_length t
trace_length n count t u [] is low (done flat) = omega arith
trace_length n count t u (m ∷ ms) is low (step s r) = omega (arith, trace_length n count (act t m) u ms (step_end n count t m is low s) low r, step_shortens t m is.tuple s)

pub reached_of : (n count : ℕ) (t u : TupleData) (ms : List Move) → IsTupleOf n count t → Reaches t ms u → IsTupleOf n count u
reached_of n count t u ms is r = record { tuple = reached_tuple is.tuple r; rank = reached_rank r ∙ is.rank; size = reached_words r ∙ is.size }

-- ---- flows
joined_two : (n : ℕ) (e : ℕ × ℕ) (x y : ℕ) → JoinsTwo n e → joins x y e ≡ true → (x < 2 * n) × (y < 2 * n) × (x ≢ y)
joined_two n e x y j h = elim (or_cases ((e.0 == x) && (e.1 == y)) ((e.0 == y) && (e.1 == x)) h) [
  | inl p ↦
      let q = both_true (e.0 == x) (e.1 == y) p in
      (omega (arith, j.0, eqb-true e.0 x q.0), omega (arith, j.1, eqb-true e.1 y q.1), λ same. j.2 (eqb-true e.0 x q.0 ∙ same ∙ sym (eqb-true e.1 y q.1)))
  | inr p ↦
      let q = both_true (e.0 == y) (e.1 == x) p in
      (omega (arith, j.1, eqb-true e.1 x q.1), omega (arith, j.0, eqb-true e.0 y q.0), λ same. j.2 (eqb-true e.0 y q.0 ∙ sym same ∙ sym (eqb-true e.1 x q.1)))
]

-- Where edges join two letters, these are different letters of the rank.
edge_ends : (n x y : ℕ) (es : List (ℕ × ℕ)) → All (JoinsTwo n) es → 0 < count_by (joins x y) es → (x < 2 * n) × (y < 2 * n) × (x ≢ y)
edge_ends n x y [] are h = absurd (omega (arith, h))
edge_ends n x y (e ∷ es) are h = elim (cases_Bool (joins x y e)) [
  | inl t ↦ joined_two n e x y (All-head (JoinsTwo n) e es are) t
  | inr f ↦ edge_ends n x y es (All-tail (JoinsTwo n) e es are) (omega (arith, h, count-cons (joins x y) e es, ap one f))
]

pub flow_of_generator : (t : TupleData) (flows : List (List ℕ)) (g : ℕ) → IsTuple t → AreFlows t flows → g < t.rank → IsFlowOf t.rank g (get_or flows g [])
flow_of_generator t flows g is are low = record {
  table = are.tables g [] (omega (arith, low, are.count));
  small = λ x y l m. omega (arith, within x y l m, count_by-le-length (joins x y) (edges t), edges_length t, is.short);
  of_rank = λ x y l m h. edge_ends t.rank x y (edges t) (edges_join t is) (omega (arith, h, within x y l m));
  value = (flows_have_lines t flows is are).values g low;
}
  where
    within : (x y : ℕ) → x < 52 → y < 52 → cell (get_or flows g []) x y ≤ edge_table t x y
    within = (are.each g low).first.flow.within
