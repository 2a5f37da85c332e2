use Rattle.wh_level.proofs.LevelEdges.{edges_unique}
use Rattle.wh_level.proofs.laws.level_edges.Goals as goal

pub returns : goal.returns
returns c = record { unique = edges_unique }
