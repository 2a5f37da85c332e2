use Rattle.std.proofs.Common.{sym, ◌∙◌, subst}
use Rattle.std.specs.List.{All}
use Rattle.wh_relators.specs.Choices.{firsts, begins}
use Rattle.wh_relators.specs.Measures.{told}
use Rattle.wh_relators.specs.Pairs.{Is}
use Rattle.wh_relators.proofs.Retained.{filter-kept, begins_else, first_cuts}
use Rattle.wh_relators.proofs.retaining.first_items.Goals as goal

pub retain-requires-clause-cuts : goal.retain-requires-clause-cuts
retain-requires-clause-cuts c = subst (All (Is c.args.capacities.now.rank)) (sym c.write_firsts-count.ensures.written) (first_cuts c.args.capacities.now.rank c.args.family c.in-Unite.is)

pub returns-in_default : goal.returns-in_default
returns-in_default c = record {
  written = c.write_firsts-count.ensures.written
      ∙ filter-kept (begins (told c.args.capacities.now) c.args.family) (begins_else (told c.args.capacities.now) c.args.family c.in_default.not-Unite c.in_default.not-Commute) (firsts c.args.capacities.now.rank c.args.family);
  end = c.write_firsts-count.ensures.end;
}
