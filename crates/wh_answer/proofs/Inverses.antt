-- Moves that carry one tuple onto another, and the inverse of a list.
use Rattle.std.proofs.Common.{◌≡◌, ◌≤◌, List, [], ◌∷◌, refl, sym, ap, ◌∙◌, subst, arith}
use Rattle.wh_words.specs.Tuples.{TupleData, IsTuple}
use Rattle.wh_words.specs.Moves.{Move, IsMove, inverse_move}
use Rattle.wh_words.specs.MoveLists.{inverse_list}
use Rattle.wh_words.specs.Action.{act, act_all}
use Rattle.wh_words.specs.CapacityTraces.{IsCapacityTrace, IsCapacityStep}
use Rattle.wh_words.specs.CapacityTraces.IsCapacityTrace.{done, step}
use Rattle.wh_words.specs.Levels.{Reaches}
use Rattle.wh_words.specs.Levels.Reaches.{here, step as further}
use Rattle.wh_words.proofs.MoveLists.{act_all-append, inverse_list-cons}
use Rattle.wh_words.proofs.ImageLetters.{act_tuple}
use Rattle.wh_moves.proofs.InverseMoves.{undone}
use Rattle.wh_reduce.proofs.Traced.{step_shortens}

-- ---- what moves lead to
pub trace_leads : (t u : TupleData) (ms : List Move) → IsCapacityTrace t ms u → act_all t ms ≡ u
trace_leads t u [] (done flat) = refl
trace_leads t u (m ∷ ms) (step s r) = trace_leads (act t m) u ms r

pub walk_leads : (t u : TupleData) (ms : List Move) → Reaches t ms u → act_all t ms ≡ u
walk_leads t u [] here = refl
walk_leads t u (m ∷ ms) (further l r) = walk_leads (act t m) u ms r

-- ---- back along a trace
pub step_move : (t : TupleData) (m : Move) → t.rank ≤ 26 → IsCapacityStep t m → IsMove m
step_move t m low s = subst IsMove (sym s.is) (record { rank = low; kind = s.cut.valid })

pub step_rank : (t : TupleData) (m : Move) → IsCapacityStep t m → t.rank ≡ m.rank
step_rank t m s = sym (ap (λ (k : Move). k.rank) s.is)

pub step_tuple : (t : TupleData) (m : Move) → IsTuple t → t.rank ≤ 26 → IsCapacityStep t m → IsTuple (act t m)
step_tuple t m is low s = act_tuple t m is (step_move t m low s) (step_rank t m s) (omega (arith, step_shortens t m is s, is.short))

pub step_back : (t : TupleData) (m : Move) → IsTuple t → t.rank ≤ 26 → IsCapacityStep t m → act (act t m) (inverse_move m) ≡ t
step_back t m is low s = undone t m is (step_move t m low s)

pub trace_back : (t u : TupleData) (ms : List Move) → IsTuple t → t.rank ≤ 26 → IsCapacityTrace t ms u → act_all u (inverse_list ms) ≡ t
trace_back t u [] is low (done flat) = refl
trace_back t u (m ∷ ms) is low (step s r) =
    ap (act_all u) (inverse_list-cons m ms)
    ∙ act_all-append u (inverse_list ms) (inverse_move m ∷ [])
    ∙ ap (λ v. act v (inverse_move m)) (trace_back (act t m) u ms (step_tuple t m is low s) low r)
    ∙ step_back t m is low s
