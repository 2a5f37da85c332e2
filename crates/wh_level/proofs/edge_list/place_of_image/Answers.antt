use Rattle.std.proofs.Common.{ap}
use Rattle.wh_words.specs.Tuples.{Tuple}
use Rattle.wh_level.proofs.LevelEdges.{image_found}
use Rattle.wh_level.proofs.edge_list.place_of_image.Goals as goal

pub unwrap-requires : goal.unwrap-requires
unwrap-requires c = image_found c.args.level.now c.args.tuple.now.plain c.args.m.now c.act_into.new.into.plain c.place.result c.requires.member c.requires.moves (ap (λ (x : Tuple). x.plain) c.act_into.ensures) c.place.ensures.place
