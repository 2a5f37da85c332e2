use Rattle.std.proofs.Common.{◌+◌, [], ◌∷◌, rules, refl}
use Rattle.wh_cert.specs.Demands.{trace_ends}
use Rattle.wh_cert.proofs.Carried.{same_tested, way_broken, way_kept, way_end}
use Rattle.wh_cert.proofs.sides.judge_trace.Goals as goal

pub returns-in_default : goal.returns-in_default
returns-in_default c =
    way_broken c.args.place c.args.tuple.now.plain c.args.side.now.trace c.in_ok-end.field-0 ((c.args.place + 1, trace_ends c.args.tuple.now.plain c.args.side.now.trace c.args.side.now.end.plain) ∷ [])
    (search rules) (search rules)

pub returns : goal.returns
returns c =
    way_kept c.args.place c.args.tuple.now.plain c.args.side.now.trace c.in_ok-end.field-0 c.in-Some.end ((c.args.place + 1, trace_ends c.args.tuple.now.plain c.args.side.now.trace c.args.side.now.end.plain) ∷ []) c.ask.result
    (search rules) (search rules)
    (c.ask.ensures (trace_ends c.args.tuple.now.plain c.args.side.now.trace c.args.side.now.end.plain) refl
    (same_tested c.same.result c.in-Some.end.plain _ c.args.side.now.end.plain c.same.ensures
    (way_end c.args.tuple.now.plain c.args.side.now.trace c.in_ok-end.field-0 c.in-Some.end (search rules) (search rules))))
