use Rattle.std.proofs.Common.{ℕ, ◌*◌, ◌∙◌, subst, arith}
use Rattle.wh_graph.proofs.EdgeTables.{graph_degree}
use Rattle.wh_cert.specs.Listings.{CutsStayWith}
use Rattle.wh_cert.proofs.Staying.{next_before}
use Rattle.wh_cert.proofs.images.cuts_stay.Goals as goal

pub cuts_stay_with-requires-clause-degree : goal.cuts_stay_with-requires-clause-degree
cuts_stay_with-requires-clause-degree c =
    c.deg.ensures
    ∙ graph_degree c.args.net.now c.args.tuple.now.plain c.of_index-mult.result c.rank.ensures.roomed.tuple (omega (arith, c.rank.ensures.rank, c.get-g-end.ensures.same, c.get-g-end.ensures.greatest)) c.requires.graph
    (omega (arith, c.of_index-mult.ensures, c.loop-g-test.true, c.get-g-end.ensures.greatest, c.get-g-end.ensures.same))

pub loop-g-preserved : goal.loop-g-preserved
loop-g-preserved c = (
  c.cuts_stay_with.ensures.roomy,
  next_before (λ j. CutsStayWith c.args.listed.now c.args.tuple.now.plain (2 * j)) c.loop-g.g c.loop-g.invariant.1
      (subst (λ (a : ℕ). CutsStayWith c.args.listed.now c.args.tuple.now.plain a) c.of_index-mult.ensures (c.cuts_stay_with.ensures.stay.0 c.if-not-cuts_stay_with.false)),
)
