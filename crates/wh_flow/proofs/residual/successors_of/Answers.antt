use Rattle.std.proofs.Common.{◌≡◌, ◌+◌, ◌∙◌, arith, sym, subst, ℕ}
use Rattle.std.specs.Int.{bit_at}
use Rattle.wh_flow.specs.Searches.{residual}
use Rattle.wh_flow.proofs.Masks.{IsSetBelow, set_none, set_with, set_without}
use Rattle.wh_flow.proofs.residual.successors_of.Goals as goal
use Rattle.wh_flow.proofs.residual.successors_of.Goals.{then-residual_capacity-gt0, else-residual_capacity-gt0}

pub loop-y-init : goal.loop-y-init
loop-y-init c = set_none (residual c.args.cap.now c.args.flow.now 0 c.args.v) c.empty-successors.result c.empty-successors.ensures

pub loop-y-preserved : goal.loop-y-preserved
loop-y-preserved c = elim c.if-residual_capacity-gt0.branch [
  | then-residual_capacity-gt0 w ↦ subst (λ (s : ℕ). IsSetBelow s (c.loop-y.y + 1) (residual c.args.cap.now c.args.flow.now 0 c.args.v)) (sym w.successors-is)
      (set_with c.loop-y.successors c.loop-y.y (residual c.args.cap.now c.args.flow.now 0 c.args.v) c.loop-y.invariant w.with-successors.result (omega (arith, w.if-residual_capacity-gt0.true, c.residual_capacity.ensures)) (subst (λ (k : ℕ). bit_at w.with-successors.result k ≡ 1) w.of_index.ensures w.with-successors.ensures.same)
      (λ i e. w.with-successors.ensures.others i (λ k. e (k ∙ w.of_index.ensures))))
  | else-residual_capacity-gt0 w ↦ set_without c.loop-y.successors c.loop-y.y (residual c.args.cap.now c.args.flow.now 0 c.args.v) c.loop-y.invariant c.if-residual_capacity-gt0.successors (omega (arith, w.if-residual_capacity-gt0.false, c.residual_capacity.ensures)) w.successors-is c.loop-y-test.true
]

pub returns : goal.returns
returns c = subst (λ (k : ℕ). IsSetBelow c.loop-y.successors k (residual c.args.cap.now c.args.flow.now 0 c.args.v)) (omega (arith, c.loop-y-test.false, c.loop-y.auto.y-end)) c.loop-y.invariant
