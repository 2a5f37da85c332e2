use Rattle.std.proofs.Common.{◌≡◌, arith, rules, Ok}
use Rattle.std.proofs.lemmas.Result.{err_from_is_err_and}
use Rattle.wh_lines.specs.LineReadings.{times}
use Rattle.wh_text.specs.Certificates.{tree_edge_after}
use Rattle.wh_lines.proofs.Times.{times_more, times_fail, times_start, times_end}
use Rattle.wh_text.proofs.parts_reading.tree_edges_after.Goals as goal

pub loop-init : goal.loop-init
loop-init c = times_start (tree_edge_after c.args.rank) c.new-edges.result.items c.args.size c.args.reader.now c.new-edges.ensures.items

pub returns-in_err-edge : goal.returns-in_err-edge
returns-in_err-edge c =
    let p = err_from_is_err_and c.from_residual.result c.from_residual.ensures.1 in
    rw (p.1, p.2) (times_fail (tree_edge_after c.args.rank) c.loop.edges.items c.args.size c.loop.counter c.loop.reader c.in_err-edge.field-0.0 (times (tree_edge_after c.args.rank) c.args.size c.args.reader.now)
    (omega (arith, c.loop-test.true)) c.in_err-edge.ensures c.loop.invariant)

pub loop-preserved : goal.loop-preserved
loop-preserved c =
    let read : tree_edge_after c.args.rank c.loop.reader ≡ Ok (c.in_ok-edge.edge, c.tree_edge_after.new.reader) = search rules in
    rw c.in_ok-push.ensures.items (times_more (tree_edge_after c.args.rank) c.loop.edges.items c.args.size c.loop.counter c.loop.reader c.in_ok-edge.edge c.tree_edge_after.new.reader (times (tree_edge_after c.args.rank) c.args.size c.args.reader.now)
    (omega (arith, c.loop-test.true)) read c.loop.invariant)

pub returns : goal.returns
returns c =
    times_end (tree_edge_after c.args.rank) c.loop.edges.items c.args.size c.loop.counter c.loop.reader (times (tree_edge_after c.args.rank) c.args.size c.args.reader.now)
    (omega (arith, c.loop-test.false)) c.loop.invariant
