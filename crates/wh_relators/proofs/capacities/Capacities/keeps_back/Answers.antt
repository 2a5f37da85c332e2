use Rattle.std.proofs.Common.{sym, subst, arith}
use Rattle.wh_words.specs.Moves.{IsCut}
use Rattle.wh_relators.specs.Cuts.{Cut}
use Rattle.wh_relators.proofs.FamilyRelations.{back_ok}
use Rattle.wh_relators.proofs.capacities.Capacities.keeps_back.Goals as goal

pub keeps-requires-clause-cut : goal.keeps-requires-clause-cut
keeps-requires-clause-cut c = subst (λ (z : Cut). IsCut c.args.self.now.rank z.mult z.set) (sym c.back.ensures) (back_ok c.args.self.now.rank (omega (arith, c.requires.roomy.few)) c.requires.cut).valid.kind
