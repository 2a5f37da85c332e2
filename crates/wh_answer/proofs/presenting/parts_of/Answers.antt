use Rattle.std.proofs.Common.{map, refl, ap, ◌∙◌}
use Rattle.wh_stab.specs.Relators.{relator_of}
use Rattle.wh_data.specs.declared.answer.Parts.{Parts}
use Rattle.wh_answer.specs.StabiliserAnswers.{told_loop}
use Rattle.wh_answer.proofs.StabiliserParts.{parts_made}
use Rattle.wh_answer.proofs.presenting.parts_of.Goals as goal

pub returns : goal.returns
returns c t l trace leads is =
    let parts : Parts = record { vertices = c.args.stab.vertices; tree = c.args.stab.tree.parent; generators = c.args.stab.generators; relators = c.of.result } in
    parts_made t l trace c.args.stab parts leads is refl refl refl (ap (map told_loop) c.of.ensures ∙ c.in_ok-push_loops.ensures ∙ ap (map relator_of) c.into_items-relators.ensures)
