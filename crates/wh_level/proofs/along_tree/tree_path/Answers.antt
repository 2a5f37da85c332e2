use Rattle.std.proofs.Common.{Some, ap, ◌∙◌}
use Rattle.wh_level.proofs.Paths.{way_end}
use Rattle.wh_level.proofs.along_tree.tree_path.Goals as goal

pub returns : goal.returns
returns c =
    c.reverse.ensures.items
    ∙ way_end c.args.parents.now c.args.place c.back.here c.back.moves.items c.requires.rooted (c.parent_at.ensures ∙ ap Some c.in_default.is) c.back.invariant
