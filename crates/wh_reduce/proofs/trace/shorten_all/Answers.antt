use Rattle.std.proofs.Common.{List, ◌∙◌, ap, sym, subst, arith}
use Rattle.wh_words.specs.Moves.{Move}
use Rattle.wh_words.specs.Tuples.{Tuple}
use Rattle.wh_reduce.proofs.Traced.{Traced, AreRoomy, traced_step, roomy_step, step_shortens, step_smaller}
use Rattle.wh_reduce.proofs.trace.shorten_all.Goals as goal

pub loop-m-preserved : goal.loop-m-preserved
loop-m-preserved c =
    let next = c.swap.ensures.x_after ∙ c.act_into.ensures in
    record {
      traced = subst (λ (ms : List Move). Traced c.args.end.now.plain ms c.swap.new.x.plain) (sym c.in_ok-push.ensures.items)
          (traced_step c.args.end.now.plain c.loop-m.end.plain c.swap.new.x.plain c.loop-m.moves.items c.in-Some.m c.loop-m.invariant.traced c.in-Some.ensures.step (ap (λ (t : Tuple). t.plain) next));
      roomy = subst (AreRoomy c.args.end.now.plain c.swap.new.x) (sym c.swap.ensures.y_after)
          (roomy_step c.args.end.now.plain c.loop-m.end c.loop-m.spare c.swap.new.x c.in-Some.m c.loop-m.invariant.roomy c.in-Some.ensures.roomed.tuple c.in-Some.ensures.step next);
    }

pub act_into-requires-clause-short : goal.act_into-requires-clause-short
act_into-requires-clause-short c = omega (arith, step_shortens c.loop-m.end.plain c.in-Some.m c.in-Some.ensures.roomed.tuple c.in-Some.ensures.step, c.in-Some.ensures.roomed.tuple.short)

pub act_into-requires-clause-room : goal.act_into-requires-clause-room
act_into-requires-clause-room c =
    omega (arith, step_shortens c.loop-m.end.plain c.in-Some.m c.in-Some.ensures.roomed.tuple c.in-Some.ensures.step, c.loop-m.invariant.roomy.short, c.loop-m.invariant.roomy.spare_room)

pub loop-m-smaller : goal.loop-m-smaller
loop-m-smaller c = step_smaller c.loop-m.end c.loop-m.spare c.swap.new.x c.in-Some.m c.in-Some.ensures.roomed.tuple c.in-Some.ensures.step (c.swap.ensures.x_after ∙ c.act_into.ensures)
