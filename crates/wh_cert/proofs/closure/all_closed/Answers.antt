use Rattle.std.proofs.Common.{rules, refl, subst, arith}
use Rattle.wh_cert.specs.Orbits.{AreJudgedBefore}
use Rattle.wh_cert.proofs.JudgedOrbits.{one_more_judged, all_judged}
use Rattle.wh_cert.proofs.closure.all_closed.Goals as goal

pub loop-place-preserved : goal.loop-place-preserved
loop-place-preserved c = (
  c.is_judged.ensures.roomy,
  one_more_judged c.args.listed.now c.loop-place.place c.in_ok-is_judged.field-0 c.loop-place.invariant.1 c.in_ok-is_judged.ensures.judged (search rules),
)

pub returns-clause-closed : goal.returns-clause-closed
returns-clause-closed c = (
  λ _. all_judged c.args.listed.now (subst (AreJudgedBefore c.args.listed.now) (omega (arith, c.loop-place-test.false, c.len-place-end.ensures.len, c.loop-place.auto.place-end)) c.loop-place.invariant.1),
  λ _. refl,
)
