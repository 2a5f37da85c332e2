use Rattle.std.proofs.Common.{ℕ, ◌<◌, List, length, get_or, sym, subst, arith}
use Rattle.wh_cert.specs.WaysBack.{AreTwice}
use Rattle.wh_cert.proofs.BackWays.{steps_inside, steps_doubled, all_told}
use Rattle.wh_cert.proofs.tree.ways_back.Goals as goal

pub followed_twice-requires : goal.followed_twice-requires
followed_twice-requires c =
    subst (λ (xs : List ℕ). (v : ℕ) → v < length xs → get_or xs v 0 < length xs) (sym c.deref.ensures.value)
    (λ v l. steps_inside c.args.parents.now c.loop-steps.steps v c.loop-steps.to.items c.loop-steps.invariant.2 l)

pub loop-steps-preserved : goal.loop-steps-preserved
loop-steps-preserved c = (
  omega (arith, c.loop-steps.invariant.0),
  omega (arith, c.loop-steps-test.true, c.requires),
  steps_doubled c.args.parents.now c.loop-steps.steps c.loop-steps.to.items c.in_ok-to-2.to.items c.loop-steps.invariant.2
      (subst (λ (xs : List ℕ). AreTwice xs (length xs) c.in_ok-to-2.to.items) c.deref.ensures.value c.in_ok-to-2.ensures),
)

pub returns : goal.returns
returns c = all_told c.args.parents.now c.loop-steps.steps c.loop-steps.to.items (omega (arith, c.loop-steps-test.false)) c.loop-steps.invariant.2
