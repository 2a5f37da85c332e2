use Rattle.std.proofs.Common.{ℕ, ◌∙◌, ap}
use Rattle.std.specs.Option.{unwrap_or}
use Rattle.std.specs.declared.option.Option.{Option}
use Rattle.wh_text.proofs.Trees.{place_of_plains}
use Rattle.wh_text.proofs.parts_reading.root_place.Goals as goal

pub returns : goal.returns
returns c = c.unwrap_or.ensures ∙ ap (λ (o : Option ℕ). unwrap_or o 0) c.end_place.ensures ∙ place_of_plains c.args.end.now.plain c.args.vertices.now
