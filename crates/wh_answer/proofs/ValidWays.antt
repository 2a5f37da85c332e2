-- The tuples on the way of an answer's moves fit.
use Rattle.std.proofs.Common.{◌≡◌, zero, suc, ◌≤◌, List, [], ◌∷◌, ◌++◌, sym, subst, arith}
use Rattle.wh_words.proofs.MoveLists.{inverse_list-cons}
use Rattle.wh_words.specs.Tuples.{TupleData, IsTuple}
use Rattle.wh_words.specs.Moves.{Move, inverse_move}
use Rattle.wh_words.specs.MoveLists.{inverse_list}
use Rattle.wh_words.specs.Action.{act, act_all}
use Rattle.wh_words.specs.CapacityTraces.{IsCapacityTrace}
use Rattle.wh_words.specs.CapacityTraces.IsCapacityTrace.{done, step}
use Rattle.wh_words.specs.Levels.{Reaches}
use Rattle.wh_words.specs.Levels.Reaches.{here, step as further}
use Rattle.wh_moves.specs.Acts.{Fits, FitsOnTheWay}
use Rattle.wh_answer.proofs.Inverses.{trace_leads, walk_leads, step_tuple, step_back, trace_back}

-- ---- one list of moves after another
fits_here : (t : TupleData) → Fits t → FitsOnTheWay t []
fits_here t f zero l = f
fits_here t f (suc k) l = absurd (omega (arith, l))

fits_next : (t : TupleData) (m : Move) (ms : List Move) → Fits t → FitsOnTheWay (act t m) ms → FitsOnTheWay t (m ∷ ms)
fits_next t m ms f r zero l = f
fits_next t m ms f r (suc k) l = r k (omega (arith, l))

fits_joined : (t u : TupleData) (ms ns : List Move) → act_all t ms ≡ u → FitsOnTheWay t ms → FitsOnTheWay u ns → FitsOnTheWay t (ms ++ ns)
fits_joined t u [] ns e f g = subst (λ v. FitsOnTheWay v ns) (sym e) g
fits_joined t u (m ∷ ms) ns e f g = fits_next t m (ms ++ ns) (f 0 (omega arith)) (fits_joined (act t m) u ms ns e (λ k l. f (suc k) (omega (arith, l))) g)

-- ---- traces, walks, and the inverses of traces
-- A trace shortens the tuple at each step.
pub trace_fits : (t u : TupleData) (ms : List Move) → IsTuple t → t.rank ≤ 26 → IsCapacityTrace t ms u → FitsOnTheWay t ms
trace_fits t u [] is low (done flat) = fits_here t is.short
trace_fits t u (m ∷ ms) is low (step s r) = fits_next t m ms is.short (trace_fits (act t m) u ms (step_tuple t m is low s) low r)

-- A walk keeps the length.
walk_fits : (t u : TupleData) (ms : List Move) → Fits t → Reaches t ms u → FitsOnTheWay t ms
walk_fits t u [] f here = fits_here t f
walk_fits t u (m ∷ ms) f (further l r) = fits_next t m ms f (walk_fits (act t m) u ms (omega (arith, l.kept, f)) r)

-- The inverse of a trace goes back through the tuples of the trace.
back_fits : (t u : TupleData) (ms : List Move) → IsTuple t → t.rank ≤ 26 → IsCapacityTrace t ms u → FitsOnTheWay u (inverse_list ms)
back_fits t u [] is low (done flat) = fits_here t is.short
back_fits t u (m ∷ ms) is low (step s r) =
    let next : IsTuple (act t m) = step_tuple t m is low s in
    subst (FitsOnTheWay u) (sym (inverse_list-cons m ms))
    (fits_joined u (act t m) (inverse_list ms) (inverse_move m ∷ []) (trace_back (act t m) u ms next low r) (back_fits (act t m) u ms next low r)
    (fits_next (act t m) (inverse_move m) [] next.short (fits_here (act (act t m) (inverse_move m)) (subst Fits (sym (step_back t m is low s)) is.short))))

-- The end of a trace is a tuple.
pub trace_tuple : (t u : TupleData) (ms : List Move) → IsTuple t → t.rank ≤ 26 → IsCapacityTrace t ms u → IsTuple u
trace_tuple t u [] is low (done flat) = is
trace_tuple t u (m ∷ ms) is low (step s r) = trace_tuple (act t m) u ms (step_tuple t m is low s) low r

-- ---- the moves of a yes
module _ (s t : TupleData) (first : IsTuple s) (second : IsTuple t) (low : s.rank ≤ 26) (other_low : t.rank ≤ 26) where
  pub way_at_once : (u : TupleData) (ms ns : List Move) → IsCapacityTrace s ms u → IsCapacityTrace t ns u → FitsOnTheWay s (ms ++ inverse_list ns)
  way_at_once u ms ns r q = fits_joined s u ms (inverse_list ns) (trace_leads s u ms r) (trace_fits s u ms first low r) (back_fits t u ns second other_low q)

  pub way_by_walk : (u v : TupleData) (ms ns walk : List Move) → IsCapacityTrace s ms u → IsCapacityTrace t ns v → Reaches u walk v → FitsOnTheWay s (ms ++ (walk ++ inverse_list ns))
  way_by_walk u v ms ns walk r q w =
      let end : IsTuple u = trace_tuple s u ms first low r in
      fits_joined s u ms (walk ++ inverse_list ns) (trace_leads s u ms r) (trace_fits s u ms first low r)
      (fits_joined u v walk (inverse_list ns) (walk_leads u v walk w) (walk_fits u v walk end.short w) (back_fits t v ns second other_low q))
