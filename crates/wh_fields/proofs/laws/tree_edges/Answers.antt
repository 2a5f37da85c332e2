use Rattle.wh_fields.proofs.StabiliserLaws.{reads_tree_edges}
use Rattle.wh_fields.proofs.laws.tree_edges.Goals as goal

pub returns : goal.returns
returns c = reads_tree_edges
