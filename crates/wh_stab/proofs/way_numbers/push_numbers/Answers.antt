use Rattle.std.proofs.Common.{arith, sym}
use Rattle.wh_stab.proofs.WayNumbers.{edge_numbered, edge_read, way_begins, next_edge, edge_found, way_ends}
use Rattle.wh_stab.proofs.way_numbers.push_numbers.Goals as goal

pub loop-m-init : goal.loop-m-init
loop-m-init c = way_begins c.args.level.now c.args.generators.now c.args.start c.args.moves.now c.args.word.now.items c.requires.none c.requires.way

pub unwrap-requires : goal.unwrap-requires
unwrap-requires c =
    edge_found c.args.level.now c.args.generators.now c.args.start c.args.moves.now c.args.edges.now c.loop-m.m-index c.loop-m.here c.loop-m.word.items c.m-item.result c.edge_number.result c.requires.closed c.requires.edges (omega arith) (sym c.m-item.is)
    c.loop-m.invariant c.edge_number.ensures

pub loop-m-preserved : goal.loop-m-preserved
loop-m-preserved c =
    let number = edge_numbered c.args.edges.now c.loop-m.here c.unwrap.result c.m-item.result c.edge_number.result c.edge_number.ensures c.unwrap.ensures in
    let read = edge_read c.args.level.now c.args.edges.now c.loop-m.here c.unwrap.result c.m-item.result c.index-edges-unwrap.result c.requires.edges number c.index-edges-unwrap.is in
    next_edge c.args.level.now c.args.generators.now c.args.start c.args.moves.now c.loop-m.m-index c.loop-m.here c.loop-m.word.items c.push_number.new.word.items c.m-item.result c.index-edges-unwrap.result (omega arith) (sym c.m-item.is)
    read.edge read.from read.via c.in_ok-push_number.ensures c.loop-m.invariant

pub returns : goal.returns
returns c t at = way_ends c.args.level.now c.args.generators.now c.args.start c.args.moves.now c.loop-m.m-index c.loop-m.here c.loop-m.word.items t (omega arith) at c.loop-m.invariant
