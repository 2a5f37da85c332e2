use Rattle.std.proofs.Common.{ℕ, subst}
use Rattle.wh_flow.specs.Searches.{IsSearched}
use Rattle.wh_flow.proofs.Reached.{searched_cut, searched_maximum, searched_from_start}
use Rattle.wh_flow.proofs.maximum.raise.Goals as goal

pub returns-then-d-eq0-clause-cut : goal.returns-then-d-eq0-clause-cut
returns-then-d-eq0-clause-cut g c e =
    searched_cut c.args.residual.now.cap c.args.residual.now.flow c.push-d.new.self.seen c.args.s c.args.search.now.sink
    (searched_from_start c.args.residual.now.cap c.args.residual.now.flow c.empty-search.result c.push-d.new.self.seen c.args.residual.now.from c.args.s c.args.search.now.sink c.empty-search.ensures c.requires.from
    (subst (λ (v : ℕ). IsSearched c.args.residual.now.cap c.args.residual.now.flow c.empty-search.result c.push-d.new.self.seen c.args.residual.now.from v c.args.search.now.sink) c.index.ensures.same (c.push-d.ensures.searched c.if-d-eq0.true)))
    c.index.ensures.below c.requires.flow

pub returns-then-d-eq0-clause-maximum : goal.returns-then-d-eq0-clause-maximum
returns-then-d-eq0-clause-maximum g c e =
    searched_maximum c.args.residual.now.cap c.args.residual.now.flow c.push-d.new.self.seen c.args.s c.args.search.now.sink
    (searched_from_start c.args.residual.now.cap c.args.residual.now.flow c.empty-search.result c.push-d.new.self.seen c.args.residual.now.from c.args.s c.args.search.now.sink c.empty-search.ensures c.requires.from
    (subst (λ (v : ℕ). IsSearched c.args.residual.now.cap c.args.residual.now.flow c.empty-search.result c.push-d.new.self.seen c.args.residual.now.from v c.args.search.now.sink) c.index.ensures.same (c.push-d.ensures.searched c.if-d-eq0.true)))
    c.index.ensures.below c.requires.flow
