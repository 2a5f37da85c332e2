use Rattle.std.proofs.lemmas.List.Filters.{FiltersInPlace}
use Rattle.wh_relators.specs.Choices.{stays}
use Rattle.wh_relators.specs.Measures.{told}
use Rattle.wh_relators.proofs.retaining.retain.Given as goal

abbrev pub invariant-loop-at : goal.invariant-loop-at
invariant-loop-at l = FiltersInPlace (stays (told l.capacities) l.back) l.initial.items l.items l.kept l.at
