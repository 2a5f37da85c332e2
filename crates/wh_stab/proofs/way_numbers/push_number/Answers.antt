use Rattle.std.proofs.Common.{rules}
use Rattle.wh_stab.proofs.FirstGenerators.{edge_end_within}
use Rattle.wh_stab.proofs.WayNumbers.{generator_there, place_found}
use Rattle.wh_stab.proofs.way_numbers.push_number.Goals as goal

pub is_of_tree-requires : goal.is_of_tree-requires
is_of_tree-requires c = edge_end_within c.args.level.now c.args.edge.now c.requires.edge

pub unwrap-place-requires : goal.unwrap-place-requires
unwrap-place-requires c =
    place_found c.args.generators.now (c.args.edge.now.from, c.args.edge.now.via) c.generator_place.result c.generator_place.ensures
    (generator_there c.args.level.now c.args.generators.now c.args.edge.now c.requires.closed c.requires.edge c.requires.generators (search rules))
