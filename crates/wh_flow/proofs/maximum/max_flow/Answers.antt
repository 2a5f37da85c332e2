use Rattle.std.proofs.Common.{ℕ, ◌≡◌, ◌+◌, ◌∙◌, arith, ap, subst, List, cond}
use Rattle.wh_words.specs.Flows.{IsFlow}
use Rattle.wh_flow.specs.Tables.{cell, zero_table}
use Rattle.wh_flow.specs.Residuals.{ResidualNet}
use Rattle.wh_flow.proofs.Rounds.{starts_flow, starts_even, gap_falls, out_most}
use Rattle.wh_flow.proofs.maximum.max_flow.Goals as goal

pub raise-init : goal.raise-init
raise-init g c =
    let flow : c.without_flow-residual.result.flow ≡ zero_table = ap (λ (r : ResidualNet). r.flow) c.without_flow-residual.ensures in
    record {
      sink = c.new-search.ensures.sink;
      cap = ap (λ (r : ResidualNet). r.cap) c.without_flow-residual.ensures;
      from = ap (λ (r : ResidualNet). r.from) c.without_flow-residual.ensures;
      flow = starts_flow (cell c.args.net.now.cells) c.without_flow-residual.result.flow c.args.s c.args.t flow;
      count = omega (arith, starts_even c.without_flow-residual.result.flow c.args.s c.index.ensures.below flow);
    }

pub raise-smaller : goal.raise-smaller
raise-smaller g c =
    let flow : IsFlow (cell c.args.net.now.cells) (cell c.raise-in-raise.new.residual.flow) c.args.s c.args.t =
    subst (λ (l : List ℕ). IsFlow (cell l) (cell c.raise-in-raise.new.residual.flow) c.args.s c.args.t) c.raise.invariant.cap
    (subst (λ (t : ℕ). IsFlow (cell c.raise.residual.cap) (cell c.raise-in-raise.new.residual.flow) c.args.s t) c.raise.invariant.sink c.raise-in-raise.ensures.flow) in
    gap_falls (cell c.args.net.now.cells) (cell c.raise.residual.flow) (cell c.raise-in-raise.new.residual.flow) c.args.s c.args.t c.index.ensures.below flow (c.raise-in-raise.ensures.more c.raise-test.true)

pub returns-clause-cost : goal.returns-clause-cost
returns-clause-cost g c =
    let none : c.raise-in-raise.new.steps ≡ c.raise.steps + 0 = c.raise-in-raise.ensures.cost ∙ ap (λ b. c.raise.steps + cond b 1 0) c.raise-test.false in
    omega (arith, none, c.raise.invariant.count, out_most (cell c.args.net.now.cells) (cell c.raise.residual.flow) c.args.s c.args.t c.index.ensures.below c.raise.invariant.flow)
