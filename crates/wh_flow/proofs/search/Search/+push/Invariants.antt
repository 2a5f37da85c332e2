use Rattle.std.proofs.Common.{◌≡◌, ◌<◌}
use Rattle.wh_flow.specs.Searches.{unseen, Grew, IsSearching}
use Rattle.wh_flow.proofs.search.Search.+push.Given as goal

abbrev pub decreases-push : goal.decreases-push
decreases-push l = unseen l.self.now.seen

abbrev pub invariant-loop-y : goal.invariant-loop-y
invariant-loop-y l = record {
  sink : l.self.sink ≡ l.fn.self.sink;
  same : l.residual ≡ l.fn.residual;
  grew : Grew l.fn.self.seen l.self.seen;
  fewer : unseen l.self.seen < unseen l.fn.self.seen;
  searching : IsSearching l.fn.residual.cap l.fn.residual.flow l.fn.self.seen l.self.seen l.fn.residual.from l.v l.fn.self.sink;
}

abbrev pub decreases-loop-y : goal.decreases-loop-y
decreases-loop-y l = unseen l.self.seen
