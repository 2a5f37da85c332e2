use Rattle.std.proofs.Common.{◌≡◌, ◌-◌, ◌∙◌, ap, rules, arith, length, Ok}
use Rattle.wh_lines.specs.LineReadings.{times}
use Rattle.wh_text.specs.Certificates.{tree_edge_after}
use Rattle.wh_text.proofs.Trees.{times_length}
use Rattle.wh_text.proofs.parts_reading.parts_after.Goals as goal

pub parts_with-requires : goal.parts_with-requires
parts_with-requires c =
    let size : c.saturating_sub-size.result ≡ length c.args.vertices - 1 = omega (arith, c.saturating_sub-size.ensures, ap length c.items.ensures) in
    let read : times (tree_edge_after c.args.rank) c.saturating_sub-size.result c.args.reader.now ≡ Ok (c.in_ok-edges.edges.items, c.tree_edges_after.new.reader) = search rules in
    times_length (tree_edge_after c.args.rank) c.saturating_sub-size.result c.args.reader.now c.in_ok-edges.edges.items c.tree_edges_after.new.reader read ∙ size
