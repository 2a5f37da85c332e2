use Rattle.std.proofs.Common.{arith, ◌+◌, ◌∙◌, sym, ℕ, subst, List}
use Rattle.wh_flow.specs.Tables.{cell}
use Rattle.wh_flow.specs.Rerouting.{HaveOneNetFlow}
use Rattle.wh_flow.specs.Searches.{IsSearched, IsPushed}
use Rattle.wh_flow.proofs.Rerouted.{searched_least_at, turned_nets}
use Rattle.wh_flow.proofs.least.reroute.Goals as goal
use Rattle.wh_words.specs.Flows.{place}

pub returns-then-d-eq0-clause-least : goal.returns-then-d-eq0-clause-least
returns-then-d-eq0-clause-least c _ = searched_least_at c.args.residual.now.cap c.args.residual.now.flow c.push-d.new.self.seen c.args.x c.args.y c.requires.x_within c.requires.y_within
    (subst (λ (m : ℕ). IsSearched c.args.residual.now.cap c.args.residual.now.flow m c.push-d.new.self.seen (place c.args.x c.args.y + 1) c.args.x c.args.y) c.new.ensures.seen
    (subst (λ (k : ℕ). IsSearched c.args.residual.now.cap c.args.residual.now.flow c.new.result.seen c.push-d.new.self.seen k c.args.x c.args.y) c.requires.from
    (subst (λ (t : ℕ). IsSearched c.args.residual.now.cap c.args.residual.now.flow c.new.result.seen c.push-d.new.self.seen c.args.residual.now.from c.args.x t) (c.new.ensures.sink ∙ c.of_index.ensures)
    (c.push-d.ensures.searched c.if-d-eq0.true))))

pub returns-clause-net : goal.returns-clause-net
returns-clause-net c =
    let pushed : IsPushed c.args.residual.now.cap c.args.residual.now.flow c.push-d.new.residual.flow c.new.result.seen (place c.args.x c.args.y + 1) c.args.x c.args.y c.push-d.result =
    subst (λ (k : ℕ). IsPushed c.args.residual.now.cap c.args.residual.now.flow c.push-d.new.residual.flow c.new.result.seen k c.args.x c.args.y c.push-d.result) c.requires.from
    (subst (λ (t : ℕ). IsPushed c.args.residual.now.cap c.args.residual.now.flow c.push-d.new.residual.flow c.new.result.seen c.args.residual.now.from c.args.x t c.push-d.result) (c.new.ensures.sink ∙ c.of_index.ensures)
    (c.push-d.ensures.pushed (omega (arith, c.if-d-eq0.false)))) in
    subst (λ (l : List ℕ). HaveOneNetFlow (cell c.args.residual.now.flow) (cell l)) (sym c.lower.ensures.flow)
    (turned_nets c.args.residual.now.cap c.args.residual.now.flow c.push-d.new.residual.flow c.new.result.seen c.args.x c.args.y c.push-d.result
    c.requires.x_within c.requires.y_within c.lower.ensures.table (omega (arith, c.push-d.ensures.most, c.flow_of-limit.ensures)) pushed)
