use Rattle.std.proofs.Common.{◌<◌, ◌≤◌, sym, inr, ℕ, ◌≡◌, ◌+◌, ◌∙◌, arith, refl, ap, subst, List}
use Rattle.wh_flow.specs.Tables.{cell}
use Rattle.wh_flow.specs.Residuals.{ResidualNet}
use Rattle.wh_flow.specs.Rerouting.{IsFirstUpTo, IsLeastAt, HaveOneNetFlow}
use Rattle.wh_words.specs.Flows.{AgreeBefore, IsWithin, place}
use Rattle.wh_flow.proofs.Rerouted.{first_next, first_past}
use Rattle.wh_flow.proofs.Entries.{nets_on}
use Rattle.wh_flow.proofs.least.lower_row.Goals as goal

pub loop-y-init : goal.loop-y-init
loop-y-init c = record {
  cap = refl;
  from = omega (arith, c.requires.from);
  net = λ v h. refl;
  first = c.requires.first;
}

pub loop-y-preserved : goal.loop-y-preserved
loop-y-preserved c =
    let cap : c.leave_out.new.self.cap ≡ c.args.residual.now.cap = ap (λ (r : ResidualNet). r.cap) c.leave_out.ensures ∙ c.loop-y.invariant.cap in
    let flow : c.leave_out.new.self.flow ≡ c.loop-y.residual.flow = ap (λ (r : ResidualNet). r.flow) c.leave_out.ensures in
    let from : c.leave_out.new.self.from ≡ c.loop-y.residual.from + 1 = ap (λ (r : ResidualNet). r.from) c.leave_out.ensures in
    let nets : HaveOneNetFlow (cell c.loop-y.residual.flow) (cell c.lower.new.residual.flow) =
    subst (λ (l : List ℕ). HaveOneNetFlow (cell l) (cell c.lower.new.residual.flow)) flow c.lower.ensures.net in
    let front : AgreeBefore (place c.args.x c.loop-y.y) (cell c.loop-y.residual.flow) (cell c.lower.new.residual.flow) =
    subst (λ (l : List ℕ). AgreeBefore (place c.args.x c.loop-y.y) (cell l) (cell c.lower.new.residual.flow)) flow c.lower.ensures.front in
    let least : IsLeastAt (cell c.args.residual.now.cap) (cell c.lower.new.residual.flow) c.args.x c.loop-y.y =
    subst (λ (l : List ℕ). IsLeastAt (cell l) (cell c.lower.new.residual.flow) c.args.x c.loop-y.y) cap c.lower.ensures.least in
    let e : place c.args.x c.loop-y.y + 1 ≡ place c.args.x (c.loop-y.y + 1) = omega arith in
    record {
      cap = c.lower.ensures.cap ∙ cap;
      from = omega (arith, c.lower.ensures.from, from, c.loop-y.invariant.from);
      net = nets_on (cell c.args.residual.now.flow) (cell c.loop-y.residual.flow) (cell c.lower.new.residual.flow) c.loop-y.invariant.net nets;
      first = subst (λ (k : ℕ). IsFirstUpTo k (cell c.args.residual.now.cap) (cell c.lower.new.residual.flow)) e
          (first_next (cell c.args.residual.now.cap) (cell c.loop-y.residual.flow) (cell c.lower.new.residual.flow) c.args.x c.loop-y.y c.requires.x_within (omega (arith, c.loop-y-test.true, c.requires.letters)) c.loop-y.invariant.first nets front least);
    }

-- Pairs of a row past the letters of the network.
past-row : (x letters u v : ℕ) → v < 52 → place x letters ≤ place u v → place u v < place (x + 1) 0 → letters ≤ v
past-row x letters u v i low high = omega (arith, i, low, high)

pub leave_out_empty-requires-clause-empty : goal.leave_out_empty-requires-clause-empty
leave_out_empty-requires-clause-empty c u v h i low high =
    let y : c.loop-y.y ≡ c.args.letters = omega (arith, c.loop-y-test.false, c.loop-y.auto.y-end) in
    subst (λ (l : List ℕ). cell l u v ≡ 0) (sym c.loop-y.invariant.cap)
    (c.requires.of_letters u v h i (inr (past-row c.args.x c.args.letters u v i (omega (arith, low, c.loop-y.invariant.from, y)) (omega (arith, high, c.loop-y.invariant.from, y, c.requires.letters)))))

pub returns-clause-first : goal.returns-clause-first
returns-clause-first c =
    let y : c.loop-y.y ≡ c.args.letters = omega (arith, c.loop-y-test.false, c.loop-y.auto.y-end) in
    let flow : c.leave_out_empty.new.self.flow ≡ c.loop-y.residual.flow = ap (λ (r : ResidualNet). r.flow) c.leave_out_empty.ensures.same in
    let within : IsWithin (cell c.args.residual.now.cap) (cell c.loop-y.residual.flow) =
    subst (λ (l : List ℕ). IsWithin (cell l) (cell c.loop-y.residual.flow)) c.loop-y.invariant.cap c.leave_out_empty.ensures.within in
    subst (λ (l : List ℕ). IsFirstUpTo (place (c.args.x + 1) 0) (cell c.args.residual.now.cap) (cell l)) (sym flow)
    (first_past c.args.letters (place c.args.x c.loop-y.y) (place (c.args.x + 1) 0) c.args.residual.now.cap c.loop-y.residual.flow c.requires.of_letters within c.loop-y.invariant.first
    (λ u v h i low high. inr (past-row c.args.x c.args.letters u v i (omega (arith, low, y)) high)))
