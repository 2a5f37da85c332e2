use Rattle.std.proofs.Common.{◌∙◌, ap, None}
use Rattle.std.specs.List.{insert}
use Rattle.wh_text.proofs.Trees.{tree_is}
use Rattle.wh_text.proofs.parts_reading.tree_with.Goals as goal

pub returns-clause-tree : goal.returns-clause-tree
returns-clause-tree c = c.in_ok-insert.ensures.items ∙ ap (λ es. insert es c.args.root None) c.in_ok-heads.ensures.parents ∙ tree_is c.args.edges.items c.args.root
