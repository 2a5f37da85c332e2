use Rattle.std.proofs.Common.{sym, ap, subst, ◌∙◌}
use Rattle.wh_level.specs.Trees.{LevelData, IsClosedLevel}
use Rattle.wh_sets.proofs.SetLists.{plains}
use Rattle.wh_level.proofs.Places.{placed}
use Rattle.wh_level.proofs.level.Level.place.Goals as goal

pub returns-clause-place : goal.returns-clause-place
returns-clause-place c = placed c.args.self.now c.deref.result.now c.args.tuple.now c.binary_search.result c.ok.result (subst IsClosedLevel c.self.view_is c.self.invariant) (ap (λ (l : LevelData). l.tuples) (sym c.self.view_is) ∙ ap plains (sym c.deref.ensures.value)) c.binary_search.ensures.bound c.binary_search.ensures.position c.ok.ensures.value
