use Rattle.std.proofs.Common.{ap, ◌∙◌}
use Rattle.wh_words.specs.Moves.{cut_move, turned_set}
use Rattle.wh_relators.specs.Cuts.{does, undoes}
use Rattle.wh_relators.specs.Instances.{is_proper}
use Rattle.wh_relators.proofs.WordLists.{change_proper}
use Rattle.wh_relators.proofs.words.is_change_proper.Goals as goal

pub returns : goal.returns
returns c =
    c.is_proper.ensures
    ∙ (ap is_proper c.change_cuts.ensures
    ∙ change_proper c.args.rank c.args.x.mult c.args.b (does c.args.rank c.args.x) (cut_move c.args.rank c.args.b (turned_set c.args.x.mult c.args.x.set)) (undoes c.args.rank (record { mult = c.args.b; set = c.args.x.set })))
