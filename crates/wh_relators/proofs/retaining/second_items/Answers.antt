use Rattle.std.proofs.Common.{sym, ◌∙◌, subst, inl, inr}
use Rattle.std.specs.List.{All}
use Rattle.wh_relators.specs.Choices.{seconds, follows}
use Rattle.wh_relators.specs.Measures.{told}
use Rattle.wh_relators.specs.Pairs.{Is}
use Rattle.wh_relators.proofs.Retained.{filter-kept, follows_else, second_cuts}
use Rattle.wh_relators.proofs.retaining.second_items.Goals as goal

pub retain-requires-clause-cuts : goal.retain-requires-clause-cuts
retain-requires-clause-cuts c = subst (All (Is c.args.capacities.now.rank)) (sym c.write_seconds-count.ensures.written) (second_cuts c.args.capacities.now.rank c.args.family (inl c.in-Commute.is))

pub retain-requires-in-Conjugate-clause-cuts : goal.retain-requires-in-Conjugate-clause-cuts
retain-requires-in-Conjugate-clause-cuts c = subst (All (Is c.args.capacities.now.rank)) (sym c.write_seconds-count.ensures.written) (second_cuts c.args.capacities.now.rank c.args.family (inr c.in-Conjugate.is))

pub returns-in_default : goal.returns-in_default
returns-in_default c = record {
  written = c.write_seconds-count.ensures.written
      ∙ filter-kept (follows (told c.args.capacities.now) c.args.family) (follows_else (told c.args.capacities.now) c.args.family c.in_default.not-Commute c.in_default.not-Conjugate) (seconds c.args.capacities.now.rank c.args.family);
  end = c.write_seconds-count.ensures.end;
}
