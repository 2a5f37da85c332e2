use Rattle.std.proofs.Common.{length, ap, ◌∙◌}
use Rattle.wh_relators.proofs.PairCuts.{families_listed}
use Rattle.wh_relators.proofs.counting.count.Goals as goal

pub returns : goal.returns
returns c = c.count_families.ensures ∙ ap length (families_listed c.args.tuple.now.plain c.of.result c.of.ensures)
