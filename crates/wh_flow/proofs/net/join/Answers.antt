use Rattle.std.proofs.Common.{◌∙◌}
use Rattle.wh_flow.proofs.Neighbours.{neighbours_joined, neighbours_kept}
use Rattle.wh_flow.proofs.net.join.Goals as goal

pub returns-then-get-eq0-clause-masks : goal.returns-then-get-eq0-clause-masks
returns-then-get-eq0-clause-masks c =
    neighbours_joined c.args.cells.now c.args.x c.args.y c.requires.apart c.args.neighbours.now c.add_neighbour.new.neighbours c.add_neighbour-then-get-eq0.new.neighbours
    c.requires.x_within c.requires.y_within c.requires.masks c.add_neighbour.ensures.here c.add_neighbour.ensures.others c.add_neighbour-then-get-eq0.ensures.here c.add_neighbour-then-get-eq0.ensures.others

pub returns-else-get-eq0-clause-masks : goal.returns-else-get-eq0-clause-masks
returns-else-get-eq0-clause-masks c =
    neighbours_kept c.args.cells.now c.args.x c.args.y c.requires.apart c.args.neighbours.now
    (λ e. c.if-get-eq0.false (c.get.ensures ∙ e)) (λ e. c.if-get-eq0.false (c.get.ensures ∙ c.requires.symmetric ∙ e)) c.requires.masks
