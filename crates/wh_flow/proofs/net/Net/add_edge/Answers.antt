use Rattle.std.proofs.Common.{◌≡◌, ◌+◌, arith, ap, sym, ◌∙◌, ◌≢◌}
use Rattle.wh_flow.proofs.Masks.{masks_kept}
use Rattle.std.specs.Prelude.{ltb}
use Rattle.wh_flow.specs.Tables.{cell}
use Rattle.wh_flow.specs.Nets.{edge_count, Net}
use Rattle.wh_flow.proofs.NetEdges.{joined, cell_few, net_added, count_added}
use Rattle.wh_flow.proofs.net.Net.add_edge.Goals as goal

pub write_edge-requires-clause-low : goal.write_edge-requires-clause-low
write_edge-requires-clause-low c = cell_few (record { rank = c.self.inside.rank; cells = c.self.inside.cells }) c.self.invariant.0 c.index-x.result c.index-y.result
    (omega (arith, c.index-x.ensures.same, c.index-x.ensures.below)) (omega (arith, c.index-y.ensures.same, c.index-y.ensures.below))

pub write_edge-requires-clause-low_back : goal.write_edge-requires-clause-low_back
write_edge-requires-clause-low_back c = cell_few (record { rank = c.self.inside.rank; cells = c.self.inside.cells }) c.self.invariant.0 c.index-y.result c.index-x.result
    (omega (arith, c.index-y.ensures.same, c.index-y.ensures.below)) (omega (arith, c.index-x.ensures.same, c.index-x.ensures.below))

pub invariant_of-self : goal.invariant_of-self
invariant_of-self c =
    let apart : c.index-x.result ≢ c.index-y.result = λ e. c.requires.apart (sym c.index-x.ensures.same ∙ e ∙ c.index-y.ensures.same) in (
      net_added c.self.inside.cells c.write_edge.new.cells c.index-x.result c.index-y.result
          (omega (arith, c.index-x.ensures.same, c.index-x.ensures.below)) (omega (arith, c.index-y.ensures.same, c.index-y.ensures.below))
          apart c.write_edge.ensures.edge
          c.self.inside.rank c.self.invariant.0
          (omega (arith, c.requires.x_of_rank, ap (λ (n : Net). n.rank) c.self.view_is, c.index-x.ensures.same))
          (omega (arith, c.requires.y_of_rank, ap (λ (n : Net). n.rank) c.self.view_is, c.index-y.ensures.same))
          (omega (arith, c.requires.few, ap (λ (n : Net). edge_count n.cells) c.self.view_is)) c.write_edge.ensures.table,
      masks_kept c.join.new.neighbours (λ u v. cell c.self.inside.cells u v + joined c.index-x.result c.index-y.result u v) (cell c.write_edge.new.cells)
          (λ u v h i. ap (λ m. ltb 0 m) (sym (c.write_edge.ensures.edge u v h i))) c.join.ensures.masks,
    )

pub returns-clause-count : goal.returns-clause-count
returns-clause-count c =
    let added : edge_count c.write_edge.new.cells ≡ edge_count c.self.inside.cells + 1 =
    count_added c.self.inside.cells c.write_edge.new.cells c.index-x.result c.index-y.result
    (omega (arith, c.index-x.ensures.same, c.index-x.ensures.below)) (omega (arith, c.index-y.ensures.same, c.index-y.ensures.below))
    (λ e. c.requires.apart (sym c.index-x.ensures.same ∙ e ∙ c.index-y.ensures.same)) c.write_edge.ensures.edge in
    omega (arith, added, ap (λ (n : Net). edge_count n.cells) c.self.view_is)
